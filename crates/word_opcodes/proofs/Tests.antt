-- What a test that antt computes says of each thing that it went through.
--     below k f, at        the test f passes at each number below k
-- Assumes nothing.
use mathlib.Core.Path.{◌≡◌, refl, subst}
use mathlib.Core.Bool.{Bool, true, false, ◌&&◌}
use Prim.Native.Nat.{ℕ, zero, suc, ◌<◌}
use native.Mathlib.Nat.{not-suc-le-zero}
use native.Mathlib.Omega.{arith}
use lib.Dec.{T, ltb}
use borrow.Author.Tests.{ltb-true, ltb-false}

pub both-parts : (a b : Bool) → T (a && b) → T a × T b
both-parts true b t = (tt, t)
both-parts false b t = absurd t

abbrev pub below : ℕ → (ℕ → Bool) → Bool
below zero f = true
below (suc k) f = f k && below k f

pub at : (k : ℕ) (f : ℕ → Bool) → T (below k f) → (n : ℕ) → n < k → T (f n)
at zero f t n h = absurd (not-suc-le-zero h)
at (suc k) f t n h = go (at k f (both-parts (f k) (below k f) t).1 n) (ltb n k) refl
  where
    go : (n < k → T (f n)) → (less : Bool) → ltb n k ≡ less → T (f n)
    go rest true e = rest (ltb-true n k e)
    go rest false e =
        let last : k ≡ n = omega (arith, ltb-false n k e) in
        subst (λ (m : ℕ). T (f m)) last (both-parts (f k) (below k f) t).0
