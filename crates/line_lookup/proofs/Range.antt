-- No sum on the way leaves the signed 64-bit range, where the first line and the anchors are below 2^62.
--     plus_delta       one delta moves a line by at most 128
--     sums_fit         so each line on the way through a file's deltas fits
-- Assumes nothing.
use mathlib.Core.Path.{◌≡◌, refl, sym, ◌∙◌}
use mathlib.Core.Bool.{Bool, true, false, ◌||◌, or-false}
use mathlib.Core.List.{List, [], ◌∷◌}
use Prim.Native.Nat.{ℕ, suc, ◌+◌, ◌*◌, ◌^◌, ◌≤◌, ◌<◌}
use native.Mathlib.Omega.{arith}
use borrow.Author.Tests.{ltb-true, ltb-false, leb-false}
use lib.Dec.{eqb, leb, ltb}
use lib.IntN.{ℤ, pos, negsuc, sub_ℕ, ◌+ℤ◌}
use lib.ListN.{length, take, drop, length-take, length-drop}
use lib.Signed.{mag}
use mir.Syntax.{w8, w64}
use mir.Val.{SFits, to_z}
use Rattle.format.specs.Limits.{MOST}
use Rattle.format.specs.declared.entry.AbsLineInfo.{AbsLineInfo}
use Rattle.format.specs.Form.{Bytes, All}
use Rattle.line_lookup.specs.Lines.{base_of, line_at, stepped, walked, large}
use Rattle.line_lookup.specs.Inner.Scan.{added}
use Rattle.line_lookup.proofs.Scans.{pick_both}

-- ## One delta
mag_sub : (a b : ℕ) → mag (sub_ℕ a (suc b)) ≤ a + b
mag_sub a b = by (ltb a (suc b)) refl
  where
    by : (t : Bool) → ltb a (suc b) ≡ t → mag (sub_ℕ a (suc b)) ≤ a + b
    by true e = rw e (omega arith)
    by false e = rw e (omega arith)

pub mag_plus : (y z : ℤ) → mag (y +ℤ z) ≤ mag y + mag z + 1
mag_plus (pos a) (pos b) = omega arith
mag_plus (pos a) (negsuc b) = omega (arith, mag_sub a b)
mag_plus (negsuc a) (pos b) = omega (arith, mag_sub b a)
mag_plus (negsuc a) (negsuc b) = omega arith

mag_byte : (d : ℕ) → mag (to_z w8 d) ≤ 127
mag_byte d = by (ltb d 128) refl
  where
    by : (t : Bool) → ltb d 128 ≡ t → mag (to_z w8 d) ≤ 127
    by true e = rw e (omega (arith, ltb-true d 128 e))
    by false e = rw e (omega (arith, ltb-false d 128 e))

pub plus_delta : (z : ℤ) (d : ℕ) → mag (z +ℤ to_z w8 d) ≤ mag z + 128
plus_delta z d = omega (arith, mag_plus z (to_z w8 d), mag_byte d)

pub mag_added : (z : ℤ) (d : ℕ) → mag (added z d) ≤ mag z + 128
mag_added z d = pick_both (λ y. mag y ≤ mag z + 128) (eqb d 128) (omega arith) (plus_delta z d)

-- ## Lines below 2^62
abbrev pub Low : AbsLineInfo → Type 0
Low a = a.line < 2 ^ 62

pub all-low : (line : ℕ) (anchors : List AbsLineInfo) → large line anchors ≡ false → (line < 2 ^ 62) × All Low anchors
all-low line [] e = (leb-false (2 ^ 62) line (sym (or-false (leb (2 ^ 62) line)) ∙ e), tt)
all-low line (a ∷ more) e = by (leb (2 ^ 62) line) refl e (all-low a.line more)
  where
    by : (t : Bool) → leb (2 ^ 62) line ≡ t → (t || large a.line more) ≡ false → (large a.line more ≡ false → Low a × All Low more) → (line < 2 ^ 62) × (Low a × All Low more)
    by true is e go = absurd (let z : ◌≡◌ {A = ℕ} 0 1 = cc in omega arith)
    by false is e go = (leb-false (2 ^ 62) line is, go e)

pub base_low : (pc : ℕ) (base : AbsLineInfo) (anchors : List AbsLineInfo) → Low base → All Low anchors → Low (base_of pc base anchors)
base_low pc base [] h low = h
base_low pc base (a ∷ more) h low = pick_both Low (leb a.pc pc) (base_low pc a more low.0 low.1) h

-- ## The lines on the way
module _ (anchors : List AbsLineInfo) (low : All Low anchors) (m : ℕ) (wide : 2 ^ 62 ≤ m) where
  mag_at : (i : ℕ) (z : ℤ) → mag z ≤ m → mag (line_at i anchors z) ≤ m
  mag_at i z h = go anchors low
    where
      go : (rest : List AbsLineInfo) → All Low rest → mag (line_at i rest z) ≤ m
      go [] low = h
      go (a ∷ rest) low = let this = low.0 in pick_both (λ y. mag y ≤ m) (eqb a.pc i) (omega arith) (go rest low.1)

  mag_stepped : (i : ℕ) (z : ℤ) (d : ℕ) → mag z ≤ m → mag (stepped anchors i z d) ≤ m + 128
  mag_stepped i z d h = pick_both (λ y. mag y ≤ m + 128) (eqb d 128) (omega (arith, mag_at i z h)) (omega (arith, plus_delta z d))

mag_walked : (anchors : List AbsLineInfo) → All Low anchors → (ds : Bytes) (m : ℕ) → 2 ^ 62 ≤ m → (i : ℕ) (z : ℤ) → mag z ≤ m → mag (walked anchors i z ds) ≤ m + 128 * length ds
mag_walked anchors low [] m wide i z h = omega arith
mag_walked anchors low (d ∷ ds) m wide i z h =
    omega (arith, mag_walked anchors low ds (m + 128) (omega arith) (i + 1) (stepped anchors i z d) (mag_stepped anchors low m wide i z d h))

-- the line behind each delta on the way, k of them
pub sums_fit : (line_defined : ℕ) (deltas : Bytes) (anchors : List AbsLineInfo) (pc : ℕ) → large line_defined anchors ≡ false → length deltas ≤ MOST
    → let base = base_of pc (record { pc = 0; line = line_defined }) anchors in (k : ℕ) → SFits w64 (walked anchors base.pc (pos base.line) (take k (drop base.pc (take (pc + 1) deltas))))
sums_fit line_defined deltas anchors pc small few k =
    let low = all-low line_defined anchors small in
    let base = base_of pc (record { pc = 0; line = line_defined }) anchors in
    let first = base_low pc (record { pc = 0; line = line_defined }) anchors low.0 low.1 in
    let ds = take k (drop base.pc (take (pc + 1) deltas)) in
    let shorter : length ds ≤ length deltas = simp (length-take, length-drop) (omega arith) in
    record { sfits = in_range_lem _ (length ds) (mag_walked anchors low.1 ds (2 ^ 62) (omega arith) base.pc (pos base.line) (omega arith)) (omega arith) }
  where
    in_range_lem : (m n : ℕ) → m ≤ 2 ^ 62 + 128 * n → n ≤ MOST → m < 2 ^ 63
    in_range_lem m n h k = omega arith
