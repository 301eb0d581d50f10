-- The strings of entries stand in the chunk at the places that are shown.
--     constant_stands    a string constant
--     name_stands        an upvalue's name, if it has one
--     local_stands       a local variable's name, if it has one
-- Assumes nothing.
use mathlib.Core.Path.{refl}
use mathlib.Core.Bool.{Bool, true, false, cond}
use mathlib.Core.List.{[]}
use mathlib.Core.Option.{Option, none, some, get_or}
use Prim.Native.Nat.{ℕ}
use native.Mathlib.Omega.{arith}
use lib.Dec.{eqb}
use Rattle.format.specs.Form.{Bytes, Form}
use Rattle.format.specs.GrammarFields.{LuaString}
use Rattle.format.specs.Reading.{ConstantValue, nil, boolean, integer, float, short_string, long_string}
use Rattle.format.specs.Read.{Reader}
use Rattle.format.specs.ReadFields.{string}
use Rattle.format.specs.ReadChunk.{always, tagged, constant}
use Rattle.format.proofs.Exact.{Exact, exact_many}
use Rattle.format.proofs.ExactFields.{exact_field, exact_number, exact_string}
use Rattle.format.proofs.ExactChunk.{exact_always, exact_constant, exact_local}
use Rattle.format.proofs.Located.{Found, AtPlace, any, at_give, at-refuse, at_here, at_then, Stands, StandsIf, at-string}
use Rattle.read_entry.specs.Readers.{RawLocal, raw_local}
use Rattle.read_nth.specs.Inner.Nth.{entry_at, local_at}

module _ (s : Bytes) where
  -- ## Constants
  abbrev pub ConstantStands : ConstantValue → Type 0
  ConstantStands (short_string t) = Stands s t
  ConstantStands (long_string t) = Stands s t
  ConstantStands nil = Unit {0}
  ConstantStands (boolean b) = Unit {0}
  ConstantStands (integer n) = Unit {0}
  ConstantStands (float n) = Unit {0}

  or_empty_lem : (t : Option LuaString) (place : ℕ) → StandsIf s t → Stands s (get_or t (record { place = place; bytes = [] }))
  or_empty_lem none place h = record { inside = omega arith; there = refl }
  or_empty_lem (some t) place h = h

  at-always : (limit at : ℕ) → AtPlace s at (always limit []) (λ to t. Stands s t)
  at-always limit at = at_then (exact_string limit) (at-string limit) λ t _ h. at_here λ place. at_give λ _. or_empty_lem t place h

  at_pick : {A : Type 0} {at : ℕ} {P : ℕ → A → Type 0} (b : Bool) {one two : Reader A} → AtPlace s at one P → AtPlace s at two P → AtPlace s at (cond b one two) P
  at_pick true h k = h
  at_pick false h k = k

  abbrev There : ℕ → ConstantValue → Type 0
  There to k = ConstantStands k

  at-tagged : (limit place tag at : ℕ) → AtPlace s at (tagged limit place tag) There
  at-tagged limit place tag at =
      at_pick (eqb tag 0) (at_give tt)
      (at_pick (eqb tag 1) (at_give tt)
      (at_pick (eqb tag 17) (at_give tt)
      (at_pick (eqb tag 3) (at_then (exact_field 8) any λ n _ _. at_give tt)
      (at_pick (eqb tag 19) (at_then (exact_field 8) any λ n _ _. at_give tt)
      (at_pick (eqb tag 4) (at_then (exact_always limit []) (at-always limit at) λ t _ h. at_give h)
      (at_pick (eqb tag 20) (at_then (exact_always limit []) (at-always limit at) λ t _ h. at_give h)
      at-refuse))))))

  at_constant : (limit at : ℕ) → AtPlace s at (constant limit) There
  at_constant limit at = record { holds = λ e. (at_then {s = s} {at = at} (exact_field 1) any λ tag to _. at-tagged limit at tag to).holds e }

  -- ## Entries
  -- what holds of whatever a reader gives holds of the entry of any number
  entry_has : {A : Type 0} {r : Reader A} {F : Form A} → Exact r F → (P : A → Type 0) → ((at : ℕ) → AtPlace s at r (λ to x. P x)) → (i : ℕ) {at : ℕ} {x : A} → Found s (entry_at i r) at x → P x
  entry_has exact P one i {at} f = (at_then {s = s} {at = at} (exact_many i exact) any λ _ to _. one to).holds f.is

  pub constant_stands : (limit i : ℕ) {at : ℕ} {k : ConstantValue} → Found s (entry_at i (constant limit)) at k → ConstantStands k
  constant_stands limit i f = entry_has (exact_constant limit) ConstantStands (at_constant limit) i f

  pub name_stands : (limit i : ℕ) {at : ℕ} {t : Option LuaString} → Found s (entry_at i (string limit)) at t → StandsIf s t
  name_stands limit i f = entry_has (exact_string limit) (StandsIf s) (λ at. at-string limit) i f

  -- ## Local variables
  at-raw_local : (limit at : ℕ) → AtPlace s at (raw_local limit) (λ to l. StandsIf s l.name)
  at-raw_local limit at =
      at_then (exact_string limit) (at-string limit) λ name _ h.
      at_here λ behind.
      at_then exact_number any λ startpc _ _.
      at_then exact_number any λ endpc _ _.
      at_give λ _. h

  pub local_stands : (limit i : ℕ) {at : ℕ} {l : RawLocal} → Found s (local_at i limit) at l → StandsIf s l.name
  local_stands limit i {at} f = (at_then {s = s} {at = at} (exact_many i (exact_local limit)) any λ _ to _. at-raw_local limit to).holds f.is
