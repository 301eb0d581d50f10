-- What the writer has written, one finding at a time.
-- Assumes nothing.
use mathlib.Core.Path.{◌≡◌, refl, ap}
use mathlib.Core.List.{List, ◌∷◌, ◌++◌, append_assoc}
use Prim.Native.Nat.{ℕ, suc, ◌+◌, ◌<◌, ◌≤◌}
use native.Mathlib.Numerals.{add-one}
use native.Mathlib.Omega.{arith}
use lib.ListN.{length, get_or, set, take, drop}
use lib.Seq.{take-suc, drop-cons, set_at, length-take-le}
use Rattle.validate_rules.specs.Findings.{Listing}
use Rattle.validate_rules.specs.declared.finding.Finding.{Finding}
use Rattle.validate_plan.specs.Inner.Plan.{written}

module _ (l : Listing) (ys : List Finding) where
  pub written-zero : ys ≡ written l 0 ys
  unfolding written
  written-zero = refl

  module _ (n : ℕ) where
    pub written_next : (f : Finding) → n < length l.findings → n < length ys → f ≡ get_or l.findings n f → set (written l n ys) n f ≡ written l (n + 1) ys
    unfolding written
    written_next f h k e =
        let z : n ≤ length l.findings = omega arith in
        rw (drop-cons ys n f k, set_at (take n l.findings) (get_or ys n f) (drop (suc n) ys) f n (length-take-le n l.findings z), add-one n, take-suc l.findings n f h, append_assoc)
        (ap (λ (x : Finding). take n l.findings ++ x ∷ drop (suc n) ys) e)
