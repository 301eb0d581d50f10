-- Passing over n items that are counted, one turn at a time: for any reader of an item, and its count.
-- Assumes nothing.
use Rattle.std.specs.Prelude.{Result, Ok, Err}
use mathlib.Core.Path.{◌≡◌, sym, subst}
use mathlib.Core.List.{List, ◌∷◌}
use Prim.Native.Nat.{ℕ, suc, ◌≤◌, ◌<◌}
use native.Mathlib.Omega.{arith}
use lib.ListN.{drop}
use Rattle.format.specs.declared.refusal.Refusal.{Refusal}
use Rattle.format.specs.Form.{Bytes, Form}
use Rattle.format.specs.Read.{Reader, ◌>>=◌, give, many}
use Rattle.format.proofs.Exact.{Exact}
use Rattle.format_spelling.specs.ReadSpelling.{Count}
use Rattle.format_spelling.specs.ReadSpelling as count
use Rattle.format_spelling.specs.Inner.Tally.{Room, Adds}
use Rattle.format_spelling.proofs.Covers.{Covers}
use Rattle.format_spelling.proofs.Tallies.{room-on, adds_none, adds-not, adds-value, adds_then}
use Rattle.slice.specs.declared.cursor.Cursor.{Cursor}
use Rattle.slice.specs.Inner.Results.{cursor_result}
use Rattle.read_field.proofs.Shows.{cursor_err, cursor_ok, onward}
use Rattle.read_entry.proofs.Passes.{Passes}
use Rattle.read_entry.proofs.Turns.{Rest}
use Rattle.read_entry.proofs.Turns as turn

-- what n items add
abbrev Added : {A : Type 0} → Reader A → Count → Bytes → ℕ → ℕ → List ℕ → List ℕ → Type 0
Added r c s n at = Adds (many n r at (drop at s)) (count.many n r c at (drop at s))

-- the invariant of a loop over items that are counted: there is room for those left, and what they add to t makes what all add to t₀
pub record Left {A : Type 0} (r : Reader A) (c : Count) (s : Bytes) (n from left at : ℕ) (t₀ t : List ℕ) : Type 0 where
  pub rest : Rest r s n from left at
  pub room : Room t at
  pub all : (t' : List ℕ) → Added r c s left at t t' → Added r c s n from t₀ t'

pub begins : {A : Type 0} {r : Reader A} {c : Count} {s : Bytes} {n from left : ℕ} {t : List ℕ} → left ≡ n → Room t from → Left r c s n from left from t t
begins {r = r} {c} {s} {n} {from} {left} {t} all room = record { rest = turn.begins r s n from all; room = room; all = λ t' a. subst (λ n. Added r c s n from t t') all a }

module _ {A : Type 0} {r : Reader A} {c : Count} {s : Bytes} {n from left at : ℕ} {t₀ t : List ℕ} (inv : Left r c s n from left at t₀ t) where
  -- all are passed over
  abbrev All : Result Cursor Refusal → List ℕ → Type 0
  All a t' = Passes (many n r from (drop from s)) (count.many n r c from (drop from s)) a t₀ t'

  -- none is left
  pub ends : left ≤ 0 → All (Ok (record { at = at })) t
  ends h =
      let e : 0 ≡ left = omega arith in
      (turn.ends r s n from left at inv.rest h, inv.all t (subst (λ n. Added r c s n at t t) e adds_none))

  -- an item is refused: so is the list
  pub stops : 0 < left → {q : Refusal} {t' : List ℕ} → Err q ≡ cursor_result (r at (drop at s)) → All (Err q) t'
  stops more {q} {t'} e =
      let is = cursor_err (r at (drop at s)) q e in
      let all = turn.stops r s n from left at inv.rest more q is in
      (all, adds-not (cursor_err (many n r from (drop from s)) q all))

  -- an item is read: the rest is what is behind it
  pub goes_on_lem : {fewer : ℕ} → left ≡ suc fewer → {F : Form A} → Exact r F → Covers r c → {k : Cursor} {t' : List ℕ} → Ok k ≡ cursor_result (r at (drop at s))
      → Adds (r at (drop at s)) (c at (drop at s)) t t' → Left r c s n from fewer k.at t₀ t'
  goes_on_lem {fewer} one exact covers {k} e adds =
      let w = (cursor_ok (r at (drop at s)) k e).was in
      record {
        rest = turn.goes_on_lem r s n from left at inv.rest one exact w;
        room = room-on covers at (drop at s) inv.room w.is adds;
        all = λ t' a.
            inv.all t' (subst (λ n. Added r c s n at t t') (sym one)
            (adds_then r c (λ x. many fewer r >>= λ xs. give (x ∷ xs)) (λ x. count.many fewer r c) at (drop at s) (onward exact s at w) adds (adds-value (many fewer r k.at (drop k.at s)) _ a)));
      }
