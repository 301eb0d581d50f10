-- The table of lengths (`specs/Lengths.antt`) has the length of every number's shortest spelling.
--     by_rule          the table is its rule at 0 to 64: one test, which antt computes
--     table_rule       so at the leading zeros of v it has the length of v's shortest spelling
--     told             what an arm of a match knows of its number: it is the arm's
-- Assumes nothing.
use mathlib.Core.Path.{◌≡◌, refl, sym, ◌∙◌, ap}
use mathlib.Core.List.{List, [], ◌∷◌}
use mathlib.Core.Option.{some}
use Prim.Native.Nat.{ℕ, zero, suc, ◌+◌, ◌-◌, ◌/◌, ◌^◌, ◌<◌, ◌≤◌}
use native.Mathlib.Nat.{not-suc-le-zero, add-zero}
use native.Mathlib.Omega.{arith}
use lib.Count.{count_leading_zeros, leading_of_zero, leading_top}
use lib.ListN.{length, get_elem?}
use Rattle.format.specs.Shortest.{shortest}
use Rattle.format.proofs.ShortestLaws.{length-zero, length-bits}
use Rattle.copy_put.specs.Lengths.{lengths}

-- ## The rule
-- of 64 - zeros bits: divided by 7, rounded up; and one where there are none
abbrev rule : ℕ → ℕ
rule zeros = suc ((63 - zeros) / 7)

-- at n numbers from i on
abbrev rules : ℕ → ℕ → List ℕ
rules i zero = []
rules i (suc n) = rule i ∷ rules (suc i) n

rules-at : (n i k : ℕ) → k < n → get_elem? (rules i n) k ≡ some (rule (i + k))
rules-at zero i k h = absurd (not-suc-le-zero h)
rules-at (suc n) i zero h = ap (λ m. some (rule m)) (sym (add-zero i))
rules-at (suc n) i (suc k) h =
    let next : suc i + k ≡ i + suc k = omega arith in
    rules-at n (suc i) k (omega arith) ∙ ap (λ m. some (rule m)) next

by_rule : lengths ≡ rules 0 65
unfolding lengths
by_rule = refl

entry : (zeros : ℕ) → zeros ≤ 64 → get_elem? lengths zeros ≡ some (rule zeros)
entry zeros h = rw by_rule (rules-at 65 0 zeros (omega arith) ∙ ap (λ m. some (rule m)) (omega arith))

-- ## The lengths
pub table_rule : (v : ℕ) → v < 2 ^ 64 → get_elem? lengths (count_leading_zeros 64 v) ≡ some (length (shortest v))
table_rule zero h = ap (get_elem? lengths) (leading_of_zero 64) ∙ entry 64 (omega arith) ∙ ap some (sym length-zero)
table_rule (suc n) h =
    let top = leading_top 64 (suc n) (omega arith) h in
    let few : count_leading_zeros 64 (suc n) < 64 = omega (arith, top.1) in
    entry (count_leading_zeros 64 (suc n)) (omega (arith, few)) ∙ ap some (rounded (count_leading_zeros 64 (suc n)) few ∙ length-bits (suc n) (λ z. omega (arith, z)) h)
  where
    rounded : (top : ℕ) → top < 64 → rule top ≡ (64 - top + 6) / 7
    rounded top less = omega arith

-- ## The match
-- at the number that an arm names
pub told : {x n : ℕ} → x ≡ n → get_elem? lengths x ≡ get_elem? lengths n
told e = ap (get_elem? lengths) e
