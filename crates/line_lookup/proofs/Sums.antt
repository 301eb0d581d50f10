-- Sums of a line and a delta, as the machine holds them.
-- Assumes nothing.
use mathlib.Core.Path.{◌≡◌, refl, sym, ◌∙◌, ap, ap₂}
use mathlib.Core.Bool.{true, false, true≢false}
use mathlib.Core.List.{[], ◌∷◌}
use Prim.Native.Nat.{ℕ, suc, ◌+◌, ◌-◌, ◌*◌, ◌^◌, ◌≤◌, ◌<◌}
use native.Mathlib.Omega.{arith}
use native.Mathlib.Numerals.{add-one}
use borrow.Author.Tests.{ltb-true, le-ltb, eq-eqb, ne_eqb}
use lib.Dec.{T}
use lib.IntN.{ℤ, pos, negsuc, neg_ℤ, nat_abs, ◌+ℤ◌, ◌-ℤ◌}
use lib.ListN.{length, drop, get_or}
use lib.Seq.{drop-cons}
use lib.Signed.{mag, lt_z, non_neg}
use mir.Syntax.{w8, w64}
use mir.Val.{Fits, SFits, to_z, of_z}
use mir.Facts.{to_z_pos, to_z-of_z, Fits-nat_abs}
use Rattle.format.specs.Limits.{MOST}
use Rattle.format.specs.Form.{Bytes}
use Rattle.line_anchors.specs.declared.Scan.{Scan}
use Rattle.line_lookup.specs.Lines.{raised}
use Rattle.line_lookup.specs.Inner.Scan.{added, summed, start_in, line_from}
use Rattle.line_lookup.proofs.Range.{plus_delta, mag_added}
use Rattle.line_anchors.proofs.Tests.{picked, other, drop_beyond}

-- ## add_delta
module _ (line : ℤ) (fits : SFits w64 line) (d : ℕ) where
  pub left_alone : d ≡ 128 → to_z w64 (of_z w64 line) ≡ added line d
  left_alone e = to_z-of_z {w = w64} fits ∙ picked line (line +ℤ to_z w8 d) (eq-eqb d 128 e)

  pub upward : d < 128 → to_z w64 (of_z w64 line) +ℤ to_z w64 d ≡ line +ℤ to_z w8 d
  upward h = ap₂ ◌+ℤ◌ (to_z-of_z {w = w64} fits) (to_z_pos w64 {n = d} (omega arith) ∙ sym (to_z_pos w8 {n = d} h))

  negated : 128 ≤ d → d < 256 → neg_ℤ (to_z w64 (256 - d)) ≡ to_z w8 d
  negated h f =
      let one : 256 - d ≡ suc (255 - d) = omega arith in
      let same : 255 - d ≡ 256 - suc d = omega arith in
      ap neg_ℤ (to_z_pos w64 {n = 256 - d} (omega arith) ∙ ap pos one) ∙ rw (le-ltb d 128 h) (ap negsuc same)

  pub downward : 128 ≤ d → d < 256 → to_z w64 (of_z w64 line) -ℤ to_z w64 (256 - d) ≡ line +ℤ to_z w8 d
  downward h f = ap₂ ◌+ℤ◌ (to_z-of_z {w = w64} fits) (negated h f)

  -- a sum y that was made either way
  module _ (low : mag line ≤ 2 ^ 62 + 2 ^ 32) {y : ℤ} (is : y ≡ line +ℤ to_z w8 d) where
    pub sum_fits : SFits w64 y
    sum_fits = rw is (record { sfits = omega (arith, plus_delta line d) })

    pub sum_added : (d ≡ 128 → ⊥) → to_z w64 (of_z w64 y) ≡ added line d
    sum_added n = to_z-of_z {w = w64} sum_fits ∙ is ∙ other line (line +ℤ to_z w8 d) (ne_eqb d 128 n)

-- ## add_deltas
module _ (ds : Bytes) (i : ℕ) (line : ℤ) where
  pub one-added : i < length ds → summed line (drop i ds) ≡ summed (added line (get_or ds i 0)) (drop (i + 1) ds)
  one-added h = rw (add-one, drop-cons ds i 0 h)

  pub none_left : length ds ≤ i → summed line (drop i ds) ≡ line
  none_left h = ap (summed line) (drop_beyond ds i h)

-- one turn: the line r behind the delta at i
pub turn : {whole : ℤ} (ds : Bytes) (i : ℕ) (line : ℤ) → whole ≡ summed line (drop i ds) → mag line ≤ 2 ^ 62 + 128 * i → {r : ℤ} → r ≡ added line (get_or ds i 0) → i < length ds → length ds ≤ MOST
    → (whole ≡ summed (to_z w64 (of_z w64 r)) (drop (i + 1) ds)) × (mag (to_z w64 (of_z w64 r)) ≤ 2 ^ 62 + 128 * (i + 1))
turn ds i line all low {r} is h few =
    let most : mag r ≤ mag line + 128 = rw is (mag_added line (get_or ds i 0)) in
    rw (to_z-of_z {w = w64} {z = r} (record { sfits = in_range_lem (mag line) i (mag r) low most (omega arith) })) (all ∙ one-added ds i line h ∙ ap (λ z. summed z (drop (i + 1) ds)) (sym is), omega arith)
  where
    in_range_lem : (m i n : ℕ) → m ≤ 2 ^ 62 + 128 * i → n ≤ m + 128 → i < MOST → n < 2 ^ 63
    in_range_lem m i n h k l = omega arith

-- ## line_from
pub none_from : (z : Scan) (ds : Bytes) → length ds ≡ 0 → 0 ≡ line_from z ds
none_from z [] e = refl
none_from z (d ∷ ds) e = absurd (omega arith)

pub some_from : (z : Scan) (ds : Bytes) → (length ds ≡ 0 → ⊥) → raised (summed (pos (start_in z).line) (drop (start_in z).pc ds)) ≡ line_from z ds
some_from z [] e = absurd (e refl)
some_from z (d ∷ ds) e = refl

-- ## raise
module _ (line : ℤ) (fits : SFits w64 line) where
  abbrev held : ℤ
  held = to_z w64 (of_z w64 line)

  same : held ≡ line
  same = to_z-of_z {w = w64} fits

  pub raised_up : lt_z held (pos 0) ≡ true → 0 ≡ raised line
  raised_up e = go line (rw same at e)
    where
      go : (z : ℤ) → lt_z z (pos 0) ≡ true → 0 ≡ raised z
      go (pos n) e = absurd (omega (arith, ltb-true n 0 e))
      go (negsuc n) e = refl

  pub natural : lt_z held (pos 0) ≡ false → T (non_neg held) × Fits w64 (nat_abs held)
  natural e = rw same (go line (rw same at e), Fits-nat_abs {w = w64} {z = line} tt fits)
    where
      go : (z : ℤ) → lt_z z (pos 0) ≡ false → T (non_neg z)
      go (pos n) e = tt
      go (negsuc n) e = absurd (true≢false e)

  pub raised-same : lt_z held (pos 0) ≡ false → nat_abs held ≡ raised line
  raised-same e = rw same (go line (rw same at e))
    where
      go : (z : ℤ) → lt_z z (pos 0) ≡ false → nat_abs z ≡ raised z
      go (pos n) e = refl
      go (negsuc n) e = absurd (true≢false e)
