-- Two readings that are equal but for format byte, warnings, nested source names and places: demand 3's 'equal so', said field by field and without `kept` (crates/format/specs/Copy.antt).
--     SameOption, SameConstant, SameLocal      the same but for a string's place
--     SameFunction                             the same fields and entries, but for places (start and end are places too) and the source
--     SameButFor                               of readings: the same header but for the format byte, main's source, every function, the trailing bytes
--     header_fixed                             of what belongs, the header is fixed but for the format byte: so `kept` may set it to that of format 0 and lose no more
--     same_exactly                             of what belongs, readings are equal in what is kept exactly when they are the same but for these
-- Refused: a `kept` that drops a field, as the vararg byte, or main's source (left to right); one that keeps a place, a warning or a nested source (right to left).
-- Assumes nothing.
use mathlib.Core.Path.{◌≡◌, refl, ap}
use mathlib.Core.Logic.{◌↔◌}
use mathlib.Core.List.{List, [], ◌∷◌, map}
use mathlib.Core.Option
use mathlib.Core.Option.{Option, none, some}
use Prim.Native.Nat.{ℕ}
use native.Mathlib.Omega.{arith}
use Rattle.format.specs.declared.limits.ResourceLimits.{ResourceLimits}
use Rattle.format.specs.declared.header.Header as declared
use Rattle.format.specs.Form.{Bytes}
use Rattle.format.specs.GrammarFields.{LuaString}
use Rattle.format.specs.GrammarHeader.{header_of, Header}
use Rattle.format.specs.Reading.{ConstantValue, nil, boolean, integer, float, short_string, long_string, LocalVar, Prototype, Reading}
use Rattle.format.specs.GrammarChunk.{Main, Chunk}
use Rattle.format.specs.Copy.{kept_constant, kept_local, kept_function, kept_nested, kept_functions, kept, kept_string}
use Rattle.format.proofs.Every.{Every, any, every_then, every_is}

-- ## Entries
abbrev pub Pairwise : {A : Type 0} → (A → A → Type 0) → List A → List A → Type 0
Pairwise R [] [] = Unit {0}
Pairwise R [] (y ∷ ys) = ⊥
Pairwise R (x ∷ xs) [] = ⊥
Pairwise R (x ∷ xs) (y ∷ ys) = R x y × Pairwise R xs ys

-- a string with the same bytes, wherever it stands
pub record SameString (make : LuaString → Type 0) (t : LuaString) : Type 0 where
  pub string : LuaString
  pub is : make string
  pub bytes : t.bytes ≡ string.bytes

abbrev pub SameOption : Option LuaString → Option LuaString → Type 0
SameOption none u = u ≡ none
SameOption (some t) u = SameString (λ v. u ≡ some v) t

abbrev pub SameConstant : ConstantValue → ConstantValue → Type 0
SameConstant nil d = d ≡ nil
SameConstant (boolean b) d = d ≡ boolean b
SameConstant (integer n) d = d ≡ integer n
SameConstant (float n) d = d ≡ float n
SameConstant (short_string t) d = SameString (λ v. d ≡ short_string v) t
SameConstant (long_string t) d = SameString (λ v. d ≡ long_string v) t

pub record SameLocal (l m : LocalVar) : Type 0 where
  pub name : l.name.bytes ≡ m.name.bytes
  pub startpc : l.startpc ≡ m.startpc
  pub endpc : l.endpc ≡ m.endpc

-- ## Functions
pub record SameFunction (p q : Prototype) : Type 0 where
  pub depth : p.depth ≡ q.depth
  pub parent : p.parent ≡ q.parent
  pub line_defined : p.line_defined ≡ q.line_defined
  pub last_line_defined : p.last_line_defined ≡ q.last_line_defined
  pub numparams : p.numparams ≡ q.numparams
  pub is_vararg : p.is_vararg ≡ q.is_vararg
  pub maxstacksize : p.maxstacksize ≡ q.maxstacksize
  pub instructions : p.instructions ≡ q.instructions
  pub constants : Pairwise SameConstant p.constants q.constants
  pub upvalues : p.upvalues ≡ q.upvalues
  pub protos : p.protos ≡ q.protos
  pub line_info_lem : p.line_info_lem ≡ q.line_info_lem
  pub abs_line_info : p.abs_line_info ≡ q.abs_line_info
  pub loc_vars : Pairwise SameLocal p.loc_vars q.loc_vars
  pub upvalue_names_lem : Pairwise SameOption p.upvalue_names_lem q.upvalue_names_lem

-- main with its source, and the others
abbrev pub SameFunctions : List Prototype → List Prototype → Type 0
SameFunctions [] [] = Unit {0}
SameFunctions [] (q ∷ qs) = ⊥
SameFunctions (p ∷ ps) [] = ⊥
SameFunctions (p ∷ ps) (q ∷ qs) = SameOption p.source_name q.source_name × (SameFunction p q × Pairwise SameFunction ps qs)

-- ## Chunks
-- all but the format byte
pub record SameHeader (h k : declared.Header) : Type 0 where
  pub version : h.version ≡ k.version
  pub instruction_size : h.instruction_size ≡ k.instruction_size
  pub lua_integer_size : h.lua_integer_size ≡ k.lua_integer_size
  pub sizeof_sizet : h.sizeof_sizet ≡ k.sizeof_sizet
  pub lua_number_size : h.lua_number_size ≡ k.lua_number_size
  pub luac_int_lem : h.luac_int ≡ k.luac_int
  pub luac_num_lem : h.luac_num ≡ k.luac_num

pub record SameButFor (r q : Reading) : Type 0 where
  pub header : SameHeader r.header q.header
  pub functions : SameFunctions r.functions q.functions
  pub trailing : r.trailing ≡ q.trailing

-- ## The header
abbrev Fixed : declared.Header → Type 0
Fixed h = h ≡ header_of h.format

every_header : Every Header (λ h. Fixed h.header)
every_header = every_then any λ _ _. every_then any λ place _. every_then any λ format _. every_then any λ _ _. every_is refl

every_main : (L : ResourceLimits) → Every (Main L) (λ m. Fixed m.headed.header)
every_main L = every_then every_header λ headed fixed. every_then any λ _ _. every_then any λ functions _. every_is fixed

pub header_fixed : (L : ResourceLimits) (s : Bytes) (r : Reading) → Chunk L s r → r.header ≡ header_of r.header.format
header_fixed L s r c = rw (← ap (λ x. x.header) c.shows) ((every_main L).holds 0 c.front c.value c.main)

pub same-header : (h k : declared.Header) → Fixed h → Fixed k → SameHeader h k
same-header h k p q = rw (p, q) (record { version = refl; instruction_size = refl; lua_integer_size = refl; sizeof_sizet = refl; lua_number_size = refl; luac_int_lem = refl; luac_num_lem = refl })

-- ## What is kept, and back
module _ {A : Type 0} (R : A → A → Type 0) (plainly : A → A) where
  pub to_pairs : ((x y : A) → plainly x ≡ plainly y → R x y) → (xs ys : List A) → map plainly xs ≡ map plainly ys → Pairwise R xs ys
  to_pairs one [] [] e = tt
  to_pairs one [] (y ∷ ys) e = let z : ◌≡◌ {A = ℕ} 0 1 = cc in absurd (omega arith)
  to_pairs one (x ∷ xs) [] e = let z : ◌≡◌ {A = ℕ} 0 1 = cc in absurd (omega arith)
  to_pairs one (x ∷ xs) (y ∷ ys) e = (one x y (cc), to_pairs one xs ys (cc))

  pub from_pairs : ((x y : A) → R x y → plainly x ≡ plainly y) → (xs ys : List A) → Pairwise R xs ys → map plainly xs ≡ map plainly ys
  from_pairs one [] [] e = refl
  from_pairs one [] (y ∷ ys) e = absurd e
  from_pairs one (x ∷ xs) [] e = absurd e
  from_pairs one (x ∷ xs) (y ∷ ys) e = let head = one x y e.0 in let tail = from_pairs one xs ys e.1 in cc

-- an option
option_self : (u : Option LuaString) → SameOption (Option.map kept_string u) u
option_self none = refl
option_self (some t) = record { string = t; is = refl; bytes = refl }

option_of_lem : (t u : Option LuaString) → SameOption (Option.map kept_string t) u → SameOption t u
option_of_lem none u h = h
option_of_lem (some t) u h = record { string = h.string; is = h.is; bytes = h.bytes }

pub to_option : (t u : Option LuaString) → Option.map kept_string t ≡ Option.map kept_string u → SameOption t u
to_option t u e = option_of_lem t u (rw e (option_self u))

pub from_option : (t u : Option LuaString) → SameOption t u → Option.map kept_string t ≡ Option.map kept_string u
from_option none u h = rw h
from_option (some t) u h = rw (h.is, h.bytes)

-- a constant
constant_self : (d : ConstantValue) → SameConstant (kept_constant d) d
constant_self nil = refl
constant_self (boolean b) = refl
constant_self (integer n) = refl
constant_self (float n) = refl
constant_self (short_string t) = record { string = t; is = refl; bytes = refl }
constant_self (long_string t) = record { string = t; is = refl; bytes = refl }

constant_of : (c d : ConstantValue) → SameConstant (kept_constant c) d → SameConstant c d
constant_of nil d h = h
constant_of (boolean b) d h = h
constant_of (integer n) d h = h
constant_of (float n) d h = h
constant_of (short_string t) d h = record { string = h.string; is = h.is; bytes = h.bytes }
constant_of (long_string t) d h = record { string = h.string; is = h.is; bytes = h.bytes }

to_constant : (c d : ConstantValue) → kept_constant c ≡ kept_constant d → SameConstant c d
to_constant c d e = constant_of c d (rw e (constant_self d))

from-constant : (c d : ConstantValue) → SameConstant c d → kept_constant c ≡ kept_constant d
from-constant nil d h = rw h
from-constant (boolean b) d h = rw h
from-constant (integer n) d h = rw h
from-constant (float n) d h = rw h
from-constant (short_string t) d h = rw (h.is, h.bytes)
from-constant (long_string t) d h = rw (h.is, h.bytes)

-- a local variable
to_local : (l m : LocalVar) → kept_local l ≡ kept_local m → SameLocal l m
to_local l m e = record { name = ap (λ x. x.name.bytes) e; startpc = ap (λ x. x.startpc) e; endpc = ap (λ x. x.endpc) e }

from-local : (l m : LocalVar) → SameLocal l m → kept_local l ≡ kept_local m
from-local l m h = rw (h.name, h.startpc, h.endpc)

-- a function
pub to_function : (a b : Option LuaString) (p q : Prototype) → kept_function a p ≡ kept_function b q → SameFunction p q
to_function a b p q e = record {
  depth = ap (λ x. x.depth) e;
  parent = ap (λ x. x.parent) e;
  line_defined = ap (λ x. x.line_defined) e;
  last_line_defined = ap (λ x. x.last_line_defined) e;
  numparams = ap (λ x. x.numparams) e;
  is_vararg = ap (λ x. x.is_vararg) e;
  maxstacksize = ap (λ x. x.maxstacksize) e;
  instructions = ap (λ x. x.instructions) e;
  constants = to_pairs SameConstant kept_constant to_constant p.constants q.constants (ap (λ x. x.constants) e);
  upvalues = ap (λ x. x.upvalues) e;
  protos = ap (λ x. x.protos) e;
  line_info_lem = ap (λ x. x.line_info_lem) e;
  abs_line_info = ap (λ x. x.abs_line_info) e;
  loc_vars = to_pairs SameLocal kept_local to_local p.loc_vars q.loc_vars (ap (λ x. x.loc_vars) e);
  upvalue_names_lem = to_pairs SameOption (Option.map kept_string) to_option p.upvalue_names_lem q.upvalue_names_lem (ap (λ x. x.upvalue_names_lem) e);
}

pub from-function : (a b : Option LuaString) (p q : Prototype) → a ≡ b → SameFunction p q → kept_function a p ≡ kept_function b q
from-function a b p q s h =
    let constants = from_pairs SameConstant kept_constant from-constant p.constants q.constants h.constants in
    let locals = from_pairs SameLocal kept_local from-local p.loc_vars q.loc_vars h.loc_vars in
    let names = from_pairs SameOption (Option.map kept_string) from_option p.upvalue_names_lem q.upvalue_names_lem h.upvalue_names_lem in
    λ i. record {
      depth = h.depth i;
      parent = h.parent i;
      start = 0;
      end = 0;
      source_name = s i;
      line_defined = h.line_defined i;
      last_line_defined = h.last_line_defined i;
      numparams = h.numparams i;
      is_vararg = h.is_vararg i;
      maxstacksize = h.maxstacksize i;
      instructions = h.instructions i;
      constants = constants i;
      upvalues = h.upvalues i;
      protos = h.protos i;
      line_info_lem = h.line_info_lem i;
      abs_line_info = h.abs_line_info i;
      loc_vars = locals i;
      upvalue_names_lem = names i;
      places = (kept_function a p).places;
    }

to_functions : (ps qs : List Prototype) → kept_functions ps ≡ kept_functions qs → SameFunctions ps qs
to_functions [] [] e = tt
to_functions [] (q ∷ qs) e = let z : ◌≡◌ {A = ℕ} 0 1 = cc in absurd (omega arith)
to_functions (p ∷ ps) [] e = let z : ◌≡◌ {A = ℕ} 0 1 = cc in absurd (omega arith)
to_functions (p ∷ ps) (q ∷ qs) e =
    let head : kept_function (Option.map kept_string p.source_name) p ≡ kept_function (Option.map kept_string q.source_name) q = cc in
    let tail : map kept_nested ps ≡ map kept_nested qs = cc in
    (to_option p.source_name q.source_name (ap (λ x. x.source_name) head), (to_function _ _ p q head, to_pairs SameFunction kept_nested (λ x y. to_function none none x y) ps qs tail))

from-functions : (ps qs : List Prototype) → SameFunctions ps qs → kept_functions ps ≡ kept_functions qs
from-functions [] [] h = refl
from-functions [] (q ∷ qs) h = absurd h
from-functions (p ∷ ps) [] h = absurd h
from-functions (p ∷ ps) (q ∷ qs) h =
    let head = from-function _ _ p q (from_option p.source_name q.source_name h.0) h.1.0 in
    let tail = from_pairs SameFunction kept_nested (λ x y. from-function none none x y refl) ps qs h.1.1 in
    cc

-- ## Of what belongs, readings are equal in what is kept exactly when they are the same but for what demand 3 sets aside
pub same_exactly : (L M : ResourceLimits) (s t : Bytes) (r q : Reading) → Chunk L s r → Chunk M t q → kept r ≡ kept q ↔ SameButFor r q
unfolding kept
same_exactly L M s t r q c d = (
  λ e. record {
    header = same-header r.header q.header (header_fixed L s r c) (header_fixed M t q d);
    functions = to_functions r.functions q.functions (ap (λ x. x.functions) e);
    trailing = ap (λ x. x.trailing) e;
  },
  λ h. let functions = from-functions r.functions q.functions h.functions in rw (functions, h.trailing),
)
