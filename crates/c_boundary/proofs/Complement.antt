-- The bits of a number below 0 are what -1 - z lacks to all ones; a narrower number in 64 bits. Assumes nothing.
use mathlib.Core.Path.{◌≡◌, refl, ap, ◌∙◌}
use mathlib.Core.Bool.{true, false, true≢false}
use Prim.Native.Nat.{suc, ◌-◌, ◌<◌, ◌≤◌, ◌^◌}
use native.Mathlib.Omega.{arith}
use lib.Dec.{T}
use lib.IntN.{ℤ, pos, negsuc, nat_abs, ◌-ℤ◌}
use lib.Signed.{mag, lt_z, non_neg}
use mir.Syntax.{Width, w64}
use mir.Val.{SFits, Fits, to_z, of_z}
use mir.Facts.{to_z-of_z, Fits-nat_abs}
use borrow.Author.Tests.{le-ltb, ltb-true}

-- z as the machine holds it
abbrev held : ℤ → ℤ
held z = to_z w64 (of_z w64 z)

module _ (z : ℤ) (fits : SFits w64 z) where
  is : held z ≡ z
  is = to_z-of_z {w = w64} fits

  module _ (below : lt_z (held z) (pos 0) ≡ true) where
    turned : negsuc 0 -ℤ held z ≡ pos (mag z)
    turned = ap (λ (x : ℤ). negsuc 0 -ℤ x) is ∙ go z (rw is at below)
      where
        go : (x : ℤ) → lt_z x (pos 0) ≡ true → negsuc 0 -ℤ x ≡ pos (mag x)
        go (pos n) e = absurd (omega (arith, ltb-true n 0 e))
        go (negsuc k) e = rw (le-ltb (suc k) 1 (omega arith)) (ap pos (omega arith))

    pub turned_fits : SFits w64 (negsuc 0 -ℤ held z)
    turned_fits = rw turned (record { sfits = fits.sfits })

    magnitude : held (negsuc 0 -ℤ held z) ≡ pos (mag z)
    magnitude = to_z-of_z {w = w64} turned_fits ∙ turned

    pub turned_natural : T (non_neg (held (negsuc 0 -ℤ held z))) × Fits w64 (nat_abs (held (negsuc 0 -ℤ held z)))
    turned_natural = rw magnitude (tt, let f = fits.sfits in record { fits = omega arith })

    pub turned_most : nat_abs (held (negsuc 0 -ℤ held z)) ≤ 18446744073709551615
    turned_most = rw magnitude (let f = fits.sfits in omega arith)

    pub turned_bits : 18446744073709551615 - nat_abs (held (negsuc 0 -ℤ held z)) ≡ of_z w64 z
    turned_bits = rw magnitude (go z (rw is at below))
      where
        go : (x : ℤ) → lt_z x (pos 0) ≡ true → 18446744073709551615 - mag x ≡ of_z w64 x
        go (pos n) e = absurd (omega (arith, ltb-true n 0 e))
        go (negsuc k) e = omega arith

  module _ (above : lt_z (held z) (pos 0) ≡ false) where
    pub kept_natural : T (non_neg (held z)) × Fits w64 (nat_abs (held z))
    kept_natural = rw is (go z (rw is at above), Fits-nat_abs {w = w64} tt fits)
      where
        go : (x : ℤ) → lt_z x (pos 0) ≡ false → T (non_neg x)
        go (pos n) e = tt
        go (negsuc n) e = absurd (true≢false e)

    pub kept-bits : nat_abs (held z) ≡ of_z w64 z
    kept-bits = rw is (go z (rw is at above))
      where
        go : (x : ℤ) → lt_z x (pos 0) ≡ false → nat_abs x ≡ of_z w64 x
        go (pos n) e = refl
        go (negsuc n) e = absurd (true≢false e)

-- ---- narrower numbers
module _ (w : Width) (z : ℤ) (fits : SFits w z) (small : mag z < 2 ^ 63) where
  pub widened_fits : SFits w64 (to_z w (of_z w z))
  widened_fits = rw (to_z-of_z {w = w} fits) (record { sfits = small })

  pub widened_is : held (to_z w (of_z w z)) ≡ z
  widened_is = to_z-of_z {w = w64} widened_fits ∙ to_z-of_z {w = w} fits
