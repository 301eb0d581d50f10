-- Signed fields, as the machine has them.
--     less_fits, less_is       n bits of w, less an offset, fit an i32, and it is their number less the offset
-- Assumes nothing.
use mathlib.Core.Path.{◌≡◌, refl, ap, ◌∙◌}
use mathlib.Core.Bool.{Bool, true, false}
use Prim.Native.Nat.{ℕ, suc, ◌-◌, ◌%◌, ◌<◌, ◌^◌}
use native.Mathlib.Nat.{lt_of_lt_of_le}
use native.Mathlib.Omega.{arith}
use lib.Dec.{T, ltb, leb, leb→le}
use lib.Pow.{pow_mono}
use lib.Bits.{bit_and, and_mask, mask_lt}
use lib.IntN.{ℤ, pos, sub_ℕ, ◌-ℤ◌}
use lib.Signed.{mag}
use mir.Syntax.{w32}
use mir.Val.{SFits, to_z, of_z}
use mir.Facts.{to_z_pos, to_z-of_z}

-- a less b + 1, of two numbers below 2 ^ 31
apart : (a b : ℕ) → a < 2 ^ 31 → b < 2 ^ 31 → mag (sub_ℕ a (suc b)) < 2 ^ 31
apart a b ha hb = go (ltb a (suc b)) refl
  where
    go : (t : Bool) → ltb a (suc b) ≡ t → mag (sub_ℕ a (suc b)) < 2 ^ 31
    go true e = rw e (omega arith)
    go false e = rw e (omega arith)

-- ---- a field of n bits, less its offset
module _ (w n : ℕ) (few : T (leb n 31)) where
  small : bit_and w (2 ^ n - 1) < 2 ^ 31
  small = lt_of_lt_of_le (mask_lt w n) (pow_mono (leb→le n 31 few))

module _ (w n m : ℕ) (few : T (leb n 31)) (hm : m < 2 ^ 31) where
  less_fits : SFits w32 (to_z w32 (bit_and w (2 ^ n - 1)) -ℤ pos (suc m))
  less_fits = rw (to_z_pos w32 (small w n few)) (record { sfits = apart (bit_and w (2 ^ n - 1)) m (small w n few) hm })

  pub less_is : to_z w32 (of_z w32 (to_z w32 (bit_and w (2 ^ n - 1)) -ℤ pos (suc m))) ≡ pos (w % 2 ^ n) -ℤ pos (suc m)
  less_is =
      to_z-of_z {w = w32} less_fits
      ∙ ap (λ (z : ℤ). z -ℤ pos (suc m)) (to_z_pos w32 (small w n few) ∙ ap pos (and_mask w n))
