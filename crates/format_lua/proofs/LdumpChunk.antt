-- What `dumpFunction` (specs/LdumpFunctions.antt) writes of one function behind its source is what the copy has there, if these things do not part the two.
--     FunctionFits f           every number fits a size_t, as it does in what was read (`proofs/LdumpKnown.antt`)
--     Alike strip f            string constants are tagged by their length; and no local name is absent and upvalues and names are as many, or, stripped, there is no debug information
--     copied_as_dumped         the law
-- Numbers from 2^31 on are no ints, and so outside the C (`dumpInt`). The whole is in `proofs/LdumpWhole.antt`.
-- Assumes nothing.
use mathlib.Core.Path.{◌≡◌, refl, ap, ap₂}
use mathlib.Core.Bool.{Bool, true, false}
use mathlib.Core.List.{List, [], ◌∷◌, ◌++◌, append_assoc, map, flatten}
use mathlib.Core.Option.{Option, none, some}
use Prim.Native.Nat.{ℕ, suc, ◌^◌, ◌<◌}
use lib.Dec.{lit<}
use lib.ListN.{length}
use Rattle.format.specs.declared.entry.AbsLineInfo.{AbsLineInfo}
use Rattle.format.specs.Reading.{ConstantValue, nil, boolean, integer, float, short_string, long_string, LocalVar, Prototype}
use Rattle.format.specs.Shortest.{shortest}
use Rattle.format.specs.Copy.{field_bytes, option_bytes, constant_bytes, upvalue_bytes, anchor_bytes, local_bytes, list_bytes, behind_source}
use Rattle.format_lua.specs.LdumpFunctions.{dump_string, dump_each, is_short, dump_constant, Dump, dump_abs_line_info, dump_loc_var, upvalue_names, dump_debug, dump_source, dump_function}
use Rattle.format.specs.ReadHeader.{same_bytes}
use Rattle.format.specs.Form.{Bytes, All}
use Rattle.format.specs.GrammarFields.{LuaString}
use Rattle.format.proofs.Every.{all_any}
use Rattle.format_lua.proofs.LdumpLaws.{dumped}

abbrev pub Fits : ℕ → Type 0
Fits n = n < 2 ^ 64

-- the numbers that each part writes
abbrev pub StringFits : Option LuaString → Type 0
StringFits none = Unit {0}
StringFits (some t) = Fits (suc (length t.bytes))

abbrev pub ConstantFits : ConstantValue → Type 0
ConstantFits nil = Unit {0}
ConstantFits (boolean b) = Unit {0}
ConstantFits (integer n) = Unit {0}
ConstantFits (float n) = Unit {0}
ConstantFits (short_string t) = StringFits (some t)
ConstantFits (long_string t) = StringFits (some t)

abbrev pub AnchorFits : AbsLineInfo → Type 0
AnchorFits a = Fits a.pc × Fits a.line

abbrev pub LocalFits : LocalVar → Type 0
LocalFits l = StringFits (some l.name) × Fits l.startpc × Fits l.endpc

abbrev pub ListFits : {A : Type 0} → (A → Type 0) → List A → Type 0
ListFits P xs = Fits (length xs) × All P xs

-- every number of a function fits a size_t
pub record FunctionFits (p : Prototype) : Type 0 where
  pub source_name : StringFits p.source_name
  pub line_defined : Fits p.line_defined
  pub last_line_defined : Fits p.last_line_defined
  pub instructions : Fits (length p.instructions)
  pub constants : ListFits ConstantFits p.constants
  pub upvalues : Fits (length p.upvalues)
  pub protos : Fits p.protos
  pub line_info_lem : Fits (length p.line_info_lem)
  pub abs_line_info : ListFits AnchorFits p.abs_line_info
  pub loc_vars : ListFits LocalFits p.loc_vars
  pub upvalue_names_lem : ListFits StringFits p.upvalue_names_lem

-- ## What does not part the dumper from the copy
-- a string constant's tag is the one that C would give it
abbrev pub TaggedByLength : ConstantValue → Type 0
TaggedByLength nil = Unit {0}
TaggedByLength (boolean b) = Unit {0}
TaggedByLength (integer n) = Unit {0}
TaggedByLength (float n) = Unit {0}
TaggedByLength (short_string t) = is_short t ≡ true
TaggedByLength (long_string t) = is_short t ≡ false

-- a name that is there: an absent one is shown as `?`
abbrev pub Named : LocalVar → Type 0
Named l = same_bytes l.name.bytes (63 ∷ []) ≡ false

-- the debug information, as it is, or stripped
abbrev pub DebugAlike : Bool → Prototype → Type 0
DebugAlike false p = All Named p.loc_vars × (length p.upvalues ≡ length p.upvalue_names_lem)
DebugAlike true p = (p.line_info_lem ≡ []) × (p.abs_line_info ≡ []) × (p.loc_vars ≡ []) × (p.upvalue_names_lem ≡ [])

pub record Alike (strip : Bool) (p : Prototype) : Type 0 where
  pub tags : All TaggedByLength p.constants
  pub debug : DebugAlike strip p

-- ## One function
pub string-is : (t : Option LuaString) → StringFits t → dump_string t ≡ option_bytes t
string-is none h = dumped 0 (lit< tt)
string-is (some t) h = ap (λ b. b ++ t.bytes) (dumped (suc (length t.bytes)) h)

constant-is : (c : ConstantValue) → ConstantFits c × TaggedByLength c → dump_constant c ≡ constant_bytes c
constant-is nil h = refl
constant-is (boolean false) h = refl
constant-is (boolean true) h = refl
constant-is (integer n) h = refl
constant-is (float n) h = refl
constant-is (short_string t) h = rw h.1 (ap (λ b. field_bytes 1 4 ++ b) (string-is (some t) h.0))
constant-is (long_string t) h = rw h.1 (ap (λ b. field_bytes 1 20 ++ b) (string-is (some t) h.0))

anchor-is : (a : AbsLineInfo) → AnchorFits a → dump_abs_line_info a ≡ anchor_bytes a
anchor-is a h = ap₂ ◌++◌ (dumped a.pc h.0) (dumped a.line h.1)

local-is : (l : LocalVar) → LocalFits l × Named l → dump_loc_var l ≡ local_bytes l
local-is l (h, named) = rw named (ap₂ ◌++◌ (string-is (some l.name) h.0) (ap₂ ◌++◌ (dumped l.startpc h.1) (dumped l.endpc h.2)))

all_both : {A : Type 0} (P Q : A → Type 0) (xs : List A) → All P xs → All Q xs → All (λ x. P x × Q x) xs
all_both P Q [] p q = tt
all_both P Q (x ∷ xs) p q = ((p.0, q.0), all_both P Q xs p.1 q.1)

-- a list, where each item is written alike
maps_are : {A : Type 0} {P : A → Type 0} (f g : A → Bytes) → ((x : A) → P x → f x ≡ g x) → (xs : List A) → All P xs → map f xs ≡ map g xs
maps_are f g same [] h = refl
maps_are f g same (x ∷ xs) h = ap₂ ◌∷◌ (same x h.0) (maps_are f g same xs h.1)

list_is : {A : Type 0} {P : A → Type 0} (f g : A → Bytes) → ((x : A) → P x → f x ≡ g x) → (xs : List A) → ListFits P xs → dump_each f xs ≡ list_bytes g xs
unfolding list_bytes
list_is f g same xs h = ap₂ ◌++◌ (dumped (length xs) h.0) (ap flatten (maps_are f g same xs h.1))

plain_is : {A : Type 0} (f : A → Bytes) (xs : List A) → Fits (length xs) → dump_each f xs ≡ list_bytes f xs
plain_is f xs h = list_is f f (λ x _. refl) xs (h, all_any xs)

all_named : (names : List (Option LuaString)) → upvalue_names (length names) names ≡ names
all_named [] = refl
all_named (name ∷ names) = ap (λ l. name ∷ l) (all_named names)

debug_is : (strip : Bool) (f : Prototype) → FunctionFits f → DebugAlike strip f
    → dump_debug strip f
    ≡ shortest (length f.line_info_lem) ++ (f.line_info_lem ++ (list_bytes anchor_bytes f.abs_line_info ++ (list_bytes local_bytes f.loc_vars ++ list_bytes option_bytes f.upvalue_names_lem)))
debug_is true f h a =
    rw (a.0, a.1, a.2, a.3, dumped 0 (lit< tt), ← plain_is anchor_bytes [] (lit< tt), ← plain_is local_bytes [] (lit< tt), ← plain_is option_bytes [] (lit< tt), dumped 0 (lit< tt))
debug_is false f h a =
    let names : upvalue_names (length f.upvalues) f.upvalue_names_lem ≡ f.upvalue_names_lem = rw a.1 (all_named f.upvalue_names_lem) in
    let locals : ListFits (λ l. LocalFits l × Named l) f.loc_vars = (h.loc_vars.0, all_both LocalFits Named f.loc_vars h.loc_vars.1 a.0) in
    rw (
      names,
      dumped (length f.line_info_lem) h.line_info_lem,
      list_is dump_abs_line_info anchor_bytes anchor-is f.abs_line_info h.abs_line_info,
      list_is dump_loc_var local_bytes local-is f.loc_vars locals,
      list_is dump_string option_bytes string-is f.upvalue_names_lem h.upvalue_names_lem,
    )

pub copied_as_dumped : (strip : Bool) (f : Prototype) (p : List Dump) (psource : Option LuaString) → FunctionFits f → Alike strip f
    → dump_function strip f p psource ≡ dump_source strip f.source_name psource ++ behind_source f (flatten (map (λ (dump : Dump). dump f.source_name) p))
unfolding dump_function behind_source
copied_as_dumped strip f p psource h a =
    let constants : ListFits (λ c. ConstantFits c × TaggedByLength c) f.constants = (h.constants.0, all_both ConstantFits TaggedByLength f.constants h.constants.1 a.tags) in
    rw (
      dumped f.line_defined h.line_defined,
      dumped f.last_line_defined h.last_line_defined,
      plain_is (field_bytes 4) f.instructions h.instructions,
      list_is dump_constant constant_bytes constant-is f.constants constants,
      plain_is upvalue_bytes f.upvalues h.upvalues,
      dumped f.protos h.protos,
      debug_is strip f h a.debug,
      append_assoc,
    )
