-- What the small functions give, by the tests on the way.
-- Assumes nothing.
use mathlib.Core.Path.{◌≡◌, refl, sym, ◌∙◌, ap}
use mathlib.Core.Bool.{Bool, true, false, cond}
use mathlib.Core.List.{[], ◌∷◌}
use Prim.Native.Nat.{ℕ, zero, suc, ◌+◌, ◌≤◌, ◌<◌}
use native.Mathlib.Omega.{arith}
use borrow.Author.Tests.{lt-ltb, le-ltb, eq-eqb, ne_eqb}
use lib.ListN.{length, drop, get_or}
use Rattle.format.specs.declared.entry.AbsLineInfo.{AbsLineInfo}
use Rattle.format.specs.Form.{Bytes}
use Rattle.line_anchors.specs.Inner.Scan.{reset_by}

-- what is picked, where the test is known
pub picked : {A : Type 0} {t : Bool} (a b : A) → t ≡ true → a ≡ cond t a b
picked a b e = sym (ap (λ t. cond t a b) e)

pub other : {A : Type 0} {t : Bool} (a b : A) → t ≡ false → b ≡ cond t a b
other a b e = sym (ap (λ t. cond t a b) e)

-- ## Beyond the deltas
pub beyond : (ds : Bytes) (i : ℕ) → length ds ≤ i → get_or ds i 0 ≡ 0
beyond [] i h = refl
beyond (d ∷ ds) zero h = absurd (omega arith)
beyond (d ∷ ds) (suc i) h = beyond ds i (omega arith)

pub drop_beyond : (ds : Bytes) (i : ℕ) → length ds ≤ i → drop i ds ≡ []
drop_beyond [] zero h = refl
drop_beyond [] (suc i) h = refl
drop_beyond (d ∷ ds) zero h = absurd (omega arith)
drop_beyond (d ∷ ds) (suc i) h = drop_beyond ds i (omega arith)

-- ## reset_by
module _ (ds : Bytes) (r a : AbsLineInfo) where
  abbrev moved : AbsLineInfo
  moved = record { pc = a.pc + 1; line = a.line }

  pub reset_other : (get_or ds a.pc 0 ≡ 128 → ⊥) → r ≡ reset_by ds r a
  reset_other h = other _ r (ne_eqb (get_or ds a.pc 0) 128 h)

  pub reset_beyond : length ds ≤ a.pc → r ≡ reset_by ds r a
  reset_beyond h = reset_other (λ e. omega (arith, beyond ds a.pc h))

  module _ (e : get_or ds a.pc 0 ≡ 128) where
    pub reset_before : a.pc < r.pc → r ≡ reset_by ds r a
    reset_before h = picked r moved (lt-ltb a.pc r.pc h) ∙ picked _ r (eq-eqb (get_or ds a.pc 0) 128 e)

    pub reset_moved : r.pc ≤ a.pc → moved ≡ reset_by ds r a
    reset_moved h = other r moved (le-ltb a.pc r.pc h) ∙ picked _ r (eq-eqb (get_or ds a.pc 0) 128 e)
