-- Bits as a signed number, for any width: from one half up they are -1 less what is missing to all ones.
-- Assumes nothing.
use mathlib.Core.Path.{◌≡◌, refl, ◌∙◌, ap}
use Prim.Native.Nat.{ℕ, zero, suc, ◌+◌, ◌-◌, ◌^◌, ◌≤◌, ◌<◌}
use native.Mathlib.Omega.{arith}
use lib.IntN.{pos, negsuc, ◌-ℤ◌}
use borrow.Author.Tests.{le-ltb}
use mir.Syntax.{Width}
use mir.Val.{bits, hbits, SFits, to_z, of_z}
use mir.Facts.{to_z_pos, to_z-of_z}

below : (m : ℕ) → negsuc 0 -ℤ pos m ≡ negsuc m
below zero = refl
below (suc k) = let e : 0 + k ≡ k = omega arith in ap (λ j. negsuc (suc j)) e

-- `ones` is the number of all ones
module _ (w : Width) (ones n : ℕ) (high : 2 ^ hbits w ≤ n) (missing : ones - n < 2 ^ hbits w) (e : ones - n ≡ 2 ^ bits w - suc n) where
  is : negsuc 0 -ℤ to_z w (ones - n) ≡ negsuc (ones - n)
  is = rw (to_z_pos w missing) (below (ones - n))

  pub negative_fits : SFits w (negsuc 0 -ℤ to_z w (ones - n))
  negative_fits = rw is (record { sfits = missing })

  pub negative_is : to_z w (of_z w (negsuc 0 -ℤ to_z w (ones - n))) ≡ to_z w n
  negative_is = to_z-of_z {w = w} negative_fits ∙ is ∙ rw (le-ltb n (2 ^ hbits w) high) (ap negsuc e)
