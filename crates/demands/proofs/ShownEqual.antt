-- What is equal is shown alike: the other way of `ReadBack.antt`. Of a string that stands in the chunk, what `string_bytes` shows by its place and length are its bytes.
-- Assumes nothing.
use mathlib.Core.Path.{◌≡◌, refl, ap}
use mathlib.Core.List.{List, [], ◌∷◌}
use mathlib.Core.Option.{Option, none, some}
use Prim.Native.Nat.{ℕ, suc}
use lib.ListN.{length}
use Rattle.format.specs.declared.refusal.Refusal.TheVariants.{NoEntry}
use Rattle.format.specs.Form.{Bytes}
use Rattle.format.specs.GrammarFields.{LuaString}
use Rattle.format.specs.Reading as reading
use Rattle.format.specs.Reading.{Reading, Prototype, LocalVar}
use Rattle.format.proofs.Located.{StandsIf}
use Rattle.read_field.specs.Shown.{option_string}
use Rattle.read_entry.specs.Shown.{constant_value}
use Rattle.read_nth.proofs.Strings.{ConstantStands}
use Rattle.show_row.specs.Asked.{or_refuse}
use Rattle.read_chunk.specs.Decoded.{summary_of}
use Rattle.show_chunk.specs.Fields.{fields_of}
use Rattle.show_entry.specs.Entries.{shown_constant, shown_name}
use Rattle.show_local.specs.Locals.{shown_local, name_written}
use Rattle.demands.proofs.Same.{Pairwise, SameLocal}
use Rattle.demands.proofs.Alike.{option_shown, value_shown, constant_shown, name_shown, EqualFunction, EqualAsShown}
use Rattle.demands.proofs.ReadBack.{Related}

-- ## What is shown of what is equal
pairs_length : {A : Type 0} (R : A → A → Type 0) (xs ys : List A) → Pairwise R xs ys → length xs ≡ length ys
pairs_length R [] [] h = refl
pairs_length R [] (y ∷ ys) h = absurd h
pairs_length R (x ∷ xs) [] h = absurd h
pairs_length R (x ∷ xs) (y ∷ ys) h = ap suc (pairs_length R xs ys h.1)

pub same_summaries : (r q : Reading) → EqualAsShown r q → summary_of r ≡ summary_of q
same_summaries r q e = rw (e.header, e.warnings, pairs_length EqualFunction r.functions q.functions e.functions, e.trailing_at, e.trailing)

pub fields_equal : (p q : Prototype) → EqualFunction p q → fields_of p ≡ fields_of q
fields_equal p q e =
    rw (
      e.depth,
      e.parent,
      e.source_name,
      e.line_defined,
      e.last_line_defined,
      e.numparams,
      e.is_vararg,
      e.maxstacksize,
      e.instructions,
      e.constants,
      e.upvalues,
      e.protos,
      e.line_info_lem,
      e.abs_line_info,
      pairs_length SameLocal p.loc_vars q.loc_vars e.loc_vars,
      e.upvalue_names_lem,
    )

-- the bytes of a string that stands in the chunk
pub option_of : Option LuaString → Bytes
option_of none = []
option_of (some t) = t.bytes

pub option_shown_lem : (s : Bytes) (t : Option LuaString) → StandsIf s t → option_shown s (option_string t) ≡ option_of t
unfolding option_of
option_shown_lem s none h = refl
option_shown_lem s (some t) h = h.there

constant_of : reading.ConstantValue → Bytes
constant_of reading.nil = []
constant_of (reading.boolean b) = []
constant_of (reading.integer n) = []
constant_of (reading.float n) = []
constant_of (reading.short_string t) = t.bytes
constant_of (reading.long_string t) = t.bytes

constant-shown : (s : Bytes) (k : reading.ConstantValue) → ConstantStands s k → value_shown s (constant_value k) ≡ constant_of k
unfolding constant_of
constant-shown s reading.nil h = refl
constant-shown s (reading.boolean b) h = refl
constant-shown s (reading.integer n) h = refl
constant-shown s (reading.float n) h = refl
constant-shown s (reading.short_string t) h = h.there
constant-shown s (reading.long_string t) h = h.there

pub value_of : Option reading.ConstantValue → Bytes
value_of none = []
value_of (some k) = constant_of k

pub value-shown : (s : Bytes) (a : Option reading.ConstantValue) → ((k : reading.ConstantValue) → a ≡ some k → ConstantStands s k) → constant_shown s (shown_constant (or_refuse NoEntry a)) ≡ value_of a
unfolding value_of
value-shown s none h = refl
value-shown s (some k) h = constant-shown s k (h k refl)

pub name_of : Option (Option LuaString) → Bytes
name_of none = []
name_of (some t) = option_of t

pub name_shown_lem : (s : Bytes) (a : Option (Option LuaString)) → ((t : Option LuaString) → a ≡ some t → StandsIf s t) → name_shown s (shown_name (or_refuse NoEntry a)) ≡ name_of a
unfolding name_of
name_shown_lem s none h = refl
name_shown_lem s (some t) h = option_shown_lem s t (h t refl)

pub locals_shown : (space : ℕ) (a b : Option LocalVar) → Related SameLocal a b → shown_local space (or_refuse NoEntry a) ≡ shown_local space (or_refuse NoEntry b)
locals_shown space none none h = refl
locals_shown space none (some m) h = absurd h
locals_shown space (some l) none h = absurd h
locals_shown space (some l) (some m) h = rw (h.name, h.startpc, h.endpc)

pub locals_written : (old : Bytes) (a b : Option LocalVar) → Related SameLocal a b → name_written old (or_refuse NoEntry a) ≡ name_written old (or_refuse NoEntry b)
locals_written old none none h = refl
locals_written old none (some m) h = absurd h
locals_written old (some l) none h = absurd h
locals_written old (some l) (some m) h = rw h.name
