-- One pc further, in the code's terms.
-- Assumes nothing.
use mathlib.Core.Path.{◌≡◌, refl, sym, ◌∙◌, ap, ap₂}
use mathlib.Core.Bool.{Bool, true, false, cond}
use mathlib.Core.List.{List, [], ◌∷◌}
use Prim.Native.Nat.{ℕ, ◌+◌, ◌-◌, ◌*◌, ◌^◌, ◌≤◌}
use native.Mathlib.Omega.{arith}
use lib.Dec.{leb}
use lib.IntN.{ℤ, pos, ◌+ℤ◌}
use lib.ListN.{length, take, drop, length-drop, length-take}
use lib.Signed.{mag}
use mir.Syntax.{w64}
use mir.Val.{SFits}
use Rattle.format.specs.Limits.{MOST}
use Rattle.format.specs.declared.entry.AbsLineInfo.{AbsLineInfo}
use Rattle.format.specs.Form.{Bytes}
use Rattle.line_lookup.specs.Lines.{raised}
use Rattle.line_lookup.specs.Inner.Scan.{added, summed}
use Rattle.line_lookup.proofs.Range.{mag_plus, mag_added}
use Rattle.line_batch.specs.declared.walk.Walk.{Walk}
use Rattle.line_batch.specs.Inner.Walk.{take_up, take_step, read_up, forward, line_by}
use Rattle.line_batch.specs.Inner.Steps.{step_of}

take-read : (pc : ℕ) (left : List AbsLineInfo) (at from : ℕ) (sum : ℤ) (read : ℕ) → (take_up pc left at from sum read).read ≡ read
take-read pc [] at from sum read = refl
take-read pc (a ∷ more) at from sum read = by (leb a.pc pc) (take-read pc more a.pc a.line (pos 0) read)
  where
    by : (t : Bool) → (take_up pc more a.pc a.line (pos 0) read).read ≡ read → (cond t (take_up pc more a.pc a.line (pos 0) read) (record { left = a ∷ more; at = at; from = from; sum = sum; read = read })).read ≡ read
    by true h = h
    by false h = refl

mag_summed : (xs : Bytes) (z : ℤ) → mag (summed z xs) ≤ mag z + 128 * length xs
mag_summed [] z = omega arith
mag_summed (d ∷ xs) z = omega (arith, mag_summed xs (added z d), mag_added z d)

module _ (s deltas : Bytes) (pc : ℕ) (first walk : Walk) (took : step_of s walk ≡ take_step pc (step_of s first)) where
  pub read_kept : walk.read ≡ first.read
  read_kept = ap (λ z. z.read) took ∙ take-read pc (step_of s first).left first.at first.from first.sum first.read

  module _ {cut : Bytes} (is : cut ≡ take (pc + 1) deltas) where
    pub short : length deltas ≤ MOST → length cut ≤ MOST
    short h = rw is (simp length-take (omega arith))

    module _ {new : ℕ} (n : new ≡ length cut - walk.at) where
      size : length (drop walk.at (take (pc + 1) deltas)) ≡ new
      size = length-drop walk.at (take (pc + 1) deltas) ∙ ap (λ l. length l - walk.at) (sym is) ∙ sym n

      module _ {sum : ℤ} (adds : sum ≡ summed walk.sum (drop walk.at cut)) where
        pub gone : step_of s (record { rest = walk.rest; at = walk.at + new; from = walk.from; sum = sum; read = walk.read + new }) ≡ forward deltas pc (step_of s first)
        gone =
            let sums : sum ≡ summed walk.sum (drop walk.at (take (pc + 1) deltas)) = adds ∙ ap (λ l. summed walk.sum (drop walk.at l)) is in
            ap₂ (λ k y. record { left = (step_of s walk).left; at = walk.at + k; from = walk.from; sum = y; read = walk.read + k }) (sym size) sums
            ∙ ap (read_up deltas pc) took

        pub bounded : mag walk.sum ≤ 128 * walk.read → mag sum ≤ 128 * (walk.read + new)
        bounded h = rw adds (omega (arith, mag_summed (drop walk.at cut) walk.sum, length-drop walk.at cut, n))

-- ## The line
pub none-there : (ds : Bytes) (from : ℕ) (sum : ℤ) → length ds ≡ 0 → 0 ≡ line_by ds from sum
none-there [] from sum e = refl
none-there (d ∷ ds) from sum e = absurd (omega arith)

pub some_there : (ds : Bytes) (from : ℕ) (sum : ℤ) → (length ds ≡ 0 → ⊥) → raised (pos from +ℤ sum) ≡ line_by ds from sum
some_there [] from sum e = absurd (e refl)
some_there (d ∷ ds) from sum e = refl

pub line-fits : (from : ℕ) (sum : ℤ) → from ≤ 2 ^ 62 → mag sum ≤ 2 ^ 32 → SFits w64 (pos from +ℤ sum)
line-fits from sum h k = record { sfits = omega (arith, mag_plus (pos from) sum) }
