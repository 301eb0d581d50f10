-- What the parts of Lua's own loader take (specs/LundumpFunctions.antt), the stricter grammar takes (crates/format_strict), with the same value, where that value is within the limits (specs/LundumpWithin.antt).
--     size_wider, int_wider            numbers; size_loads, int-loads: the converse, of bytes
--     list_wider                       a list, and no limit: where an item is taken, whatever it is
--     counted-within, up_to-within      where an item is taken that is within P: a list of such, with no limit and with one on its length
--     string-within, constant-within, local-within, anchor_wider
-- Functions and chunks are in `proofs/LundumpChunk.antt`, the converse in `proofs/StrictLoaded.antt`.
-- Assumes nothing.
use mathlib.Core.Path.{◌≡◌, refl, sym, ◌∙◌}
use mathlib.Core.List.{[], ◌∷◌, append-nil}
use mathlib.Core.Option.{Option, none, some, get_or}
use Prim.Native.Nat.{ℕ, zero, suc, ◌+◌, ◌≤◌}
use lib.Dec.{eqb}
use lib.ListN.{length}
use Rattle.format.specs.Form.{Bytes, All, Below, Form}
use Rattle.format.specs.GrammarFields.{Number, LuaString, String}
use Rattle.format.specs.GrammarFields as ours
use Rattle.format.specs.GrammarChunk.{Always}
use Rattle.format_strict.specs.GrammarStrict.{Int, StrictCounted, StrictCountedUpTo, There, Present, StrictConstant, StrictAnchor, StrictLocal}
use Rattle.format_lua.specs.LundumpFunctions.{LoadSize, LoadInt, Content, LoadStringN, NotNull, LoadString, LoadCounted, LoadConstant, LoadAbsLineInfo, LoadVarName, LoadLocVar}
use Rattle.format_lua.specs.LundumpWithin.{BytesWithin, StringWithin, ConstantWithin, LocalWithin}
use Rattle.format.proofs.Build.{skip, last}
use Rattle.format_strict.proofs.StrictLaws.{int_number, int_small}
use Rattle.format.proofs.ExactFields.{exact_number}
use Rattle.format_lua.proofs.LundumpLaws.{Ours, size_exactly, int_exactly}
use Rattle.format.proofs.Every.{any, every_run, every_many}
use Rattle.format.proofs.Wider.{Wider, then_wider, behind, so, many_wider, same_wider}
use Rattle.format_lua.proofs.WiderIf.{WiderIf, ends, learns, tested, knows, untested, limited, by_test, unasked, none_if, many_if}

-- a number that is read to the last byte
ours_spells : {at v : ℕ} {b : Bytes} → Ours 0 at b v [] → Number at b v
ours_spells {at} {v} {b} o =
    let a = exact_number.sound {at = at} {s = b} o.is in
    let all : a.bytes ≡ b = sym (a.whole ∙ append-nil a.bytes) in
    rw all at a.spelt

-- and back
ours_of : {at v : ℕ} {b : Bytes} → Number at b v → Ours 0 at b v []
ours_of {at} {v} {b} d = record { to = at + length b; is = rw append-nil at (exact_number.complete {at = at} [] d) }

pub size_wider : Wider LoadSize Number
size_wider = record { widens = λ {at} {bytes} {x} d. ours_spells ((size_exactly at bytes x [] d.0).0 d.1) }

pub int_wider : Wider LoadInt Int
int_wider = record {
  widens = λ {at} {bytes} {x} d.
      let both = (int_exactly at bytes x [] d.0).0 d.1 in
      last x (ours_spells both.0) (skip tt (refl, both.1) (refl, refl));
}

-- where these are bytes, the converse
pub size_loads : (at v : ℕ) (b : Bytes) → Below 256 b → Number at b v → LoadSize at b v
size_loads at v b bytes d = (bytes, (size_exactly at b v [] bytes).1 (ours_of {at = at} d))

pub int-loads : (at v : ℕ) (b : Bytes) → Below 256 b → Int at b v → LoadInt at b v
int-loads at v b bytes d = (bytes, (int_exactly at b v [] bytes).1 (ours_of {at = at} (int_number.widens {at = at} d), int_small at b v d))

-- ## Lists
pub list_wider : {A : Type 0} {F G : Form A} → Wider F G → Wider (LoadCounted F) (StrictCounted G)
list_wider one = then_wider int_wider λ n. behind λ place. so (many_wider n one)

module _ {A : Type 0} {P : A → Type 0} {F G : Form A} (one : WiderIf P (Unit {0}) F G) where
  -- each item is within P
  pub counted-within : WiderIf (λ l. All P l.items) (Unit {0}) (LoadCounted F) (StrictCounted G)
  counted-within = untested int_wider λ n. untested same_wider λ place. tested (many_if n one) λ items. ends λ p. (p, tt)

  -- and the list no longer than the limit
  pub up_to-within : (limit : ℕ) → WiderIf (λ l. (length l.items ≤ limit) × All P l.items) (Unit {0}) (LoadCounted F) (StrictCountedUpTo limit G)
  up_to-within limit =
      untested int_wider λ n.
      limited
      (untested same_wider λ place.
      learns (every_many n any) (many_if n one) λ items counted.
      ends λ p. (p.1, (rw (← counted.0) p.0, tt)))

-- ## Strings
module _ (limit : ℕ) where
  content-within : (size : ℕ) → WiderIf (StringWithin limit) (Unit {0}) (Content size) (ours.Content limit size)
  content-within zero = ends λ p. tt
  content-within (suc n) = limited (untested same_wider λ place. knows (every_run n) same_wider λ bytes sized. ends λ p. (rw (← sized) p, tt))

  pub string-within : WiderIf (StringWithin limit) (Unit {0}) LoadStringN (String limit)
  string-within = untested size_wider content-within

  -- a string that is no NULL is there
  not_null : (st : Option LuaString) → WiderIf (BytesWithin limit) (StringWithin limit st × Unit {0}) (NotNull st) (There st)
  not_null none = none_if
  not_null (some t) = ends λ p. (p, tt)

  pub present-within : WiderIf (BytesWithin limit) (Unit {0}) LoadString (Present limit)
  present-within = tested string-within not_null

  -- ## Constants
  pub constant-within : WiderIf (ConstantWithin limit) (Unit {0}) LoadConstant (StrictConstant limit)
  constant-within = untested same_wider λ tag.
      by_test (eqb tag 0) (unasked same_wider)
      (by_test (eqb tag 1) (unasked same_wider)
      (by_test (eqb tag 17) (unasked same_wider)
      (by_test (eqb tag 3) (unasked same_wider)
      (by_test (eqb tag 19) (unasked same_wider)
      (by_test (eqb tag 4) (tested present-within λ t. ends λ p. (p, tt))
      (by_test (eqb tag 20) (tested present-within λ t. ends λ p. (p, tt))
      none_if))))))

  -- ## Local variables
  or-within : (t : Option LuaString) (u : LuaString) → BytesWithin limit (get_or t u) → StringWithin limit t
  or-within none u p = tt
  or-within (some t) u p = p

  pub local-within : WiderIf (LocalWithin limit) (Unit {0}) LoadLocVar (StrictLocal limit)
  local-within = tested name-within λ name. untested int_wider λ startpc. untested int_wider λ endpc. ends λ p. (p, tt)
    where
      name-within : WiderIf (BytesWithin limit) (Unit {0}) LoadVarName (Always limit (63 ∷ []))
      name-within = tested string-within λ t. untested same_wider λ place. ends λ p. (or-within t _ p, tt)

-- ## Anchors: two ints
pub anchor_wider : Wider LoadAbsLineInfo StrictAnchor
anchor_wider = then_wider int_wider λ pc. so int_wider
