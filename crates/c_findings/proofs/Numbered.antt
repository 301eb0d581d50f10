-- The numbers of findings in a list, one finding more at a time.
--     none-put     of no findings nothing is written
--     next-put     the numbers of finding k behind those of the k before it
--     all-or-none  what is written goes by the room for findings
--     all-put      what the last leaves, by the plan
-- Assumes nothing.
use mathlib.Core.Path.{◌≡◌, refl, sym, ap, ◌∙◌}
use mathlib.Core.Bool.{Bool, true, false, cond}
use mathlib.Core.List.{List, [], ◌∷◌, ◌++◌}
use Prim.Native.Nat.{ℕ, ◌+◌, ◌*◌, ◌/◌, ◌<◌, ◌≤◌}
use native.Mathlib.Numerals.{add-one}
use native.Mathlib.Omega.{arith}
use lib.Dec.{leb}
use lib.ListN.{length, get_or, take, drop}
use lib.Seq.{take-suc, length-take-le}
use borrow.Author.Tests.{leb-true, leb-false, le-leb, lt-leb}
use Rattle.format.specs.ReadChunk.{Outcome, shown, refusal}
use Rattle.slice.specs.Over.{over}
use Rattle.slice.specs.Inner.Splice.{splice}
use Rattle.slice.proofs.Splices.{splice-none, splice_then, splice_front}
use Rattle.validate_rules.specs.declared.finding.Finding.{Finding}
use Rattle.validate_rules.specs.Findings.{chunk_findings}
use Rattle.validate_plan.specs.Inner.Found.{found_in}
use Rattle.c_finding.specs.FindingNumbers.{finding_numbers}
use Rattle.c_findings.specs.FindingNumbers.{list_numbers, numbers_written}

numbers_length : (fs : List Finding) → length (list_numbers fs) ≡ 4 * length fs
unfolding list_numbers
numbers_length [] = refl
numbers_length (f ∷ fs) = omega (arith, numbers_length fs)

numbers_append : (fs gs : List Finding) → list_numbers (fs ++ gs) ≡ list_numbers fs ++ list_numbers gs
unfolding list_numbers
numbers_append [] gs = refl
numbers_append (f ∷ fs) gs = ap (λ (l : List ℕ). finding_numbers f ++ l) (numbers_append fs gs)

numbers_one : (f : Finding) → list_numbers (f ∷ []) ≡ finding_numbers f
unfolding list_numbers
numbers_one f = refl

pub none-put : (fs : List Finding) (old : List ℕ) → old ≡ splice 0 (list_numbers (take 0 fs)) old
unfolding list_numbers
none-put fs old = sym (splice-none 0 old)

-- there is room for four numbers each exactly where there is room for them
pub all-or-none : (old : List ℕ) (o : Outcome) → list_numbers (found_in (length old / 4) o) ++ drop (length (list_numbers (found_in (length old / 4) o))) old ≡ numbers_written old o
unfolding list_numbers
all-or-none old (refusal q) = refl
all-or-none old (shown r) = by (leb (length (chunk_findings r).findings) (length old / 4)) refl
  where
    all : List Finding
    all = (chunk_findings r).findings

    by : (t : Bool) → leb (length all) (length old / 4) ≡ t → list_numbers (cond t all []) ++ drop (length (list_numbers (cond t all []))) old ≡ over (list_numbers all) old
    by true is = let room = leb-true (length all) (length old / 4) is in rw (le-leb (length (list_numbers all)) (length old) (omega (arith, numbers_length all)))
    by false is = let short = leb-false (length all) (length old / 4) is in rw (lt-leb (length (list_numbers all)) (length old) (omega (arith, numbers_length all)))

module _ (fs : List Finding) (old : List ℕ) where
  pub next-put : (k : ℕ) (f : Finding) (out : List ℕ) → k < length fs → 4 * k + 4 ≤ length old → f ≡ get_or fs k f → out ≡ splice 0 (list_numbers (take k fs)) old
      → splice (4 * k) (finding_numbers f) out ≡ splice 0 (list_numbers (take (k + 1) fs)) old
  next-put k f out h room e is =
      let before : length (take k fs) ≡ k = length-take-le k fs (omega arith) in
      let size : length (list_numbers (take k fs)) ≡ 4 * k = numbers_length (take k fs) ∙ ap (λ (n : ℕ). 4 * n) before in
      let place : 4 * k ≡ 0 + length (list_numbers (take k fs)) = omega (arith, size) in
      let more : list_numbers (take (k + 1) fs) ≡ list_numbers (take k fs) ++ finding_numbers f =
      rw (add-one k, take-suc fs k f h, numbers_append) (ap (λ (x : Finding). list_numbers (take k fs) ++ list_numbers (x ∷ [])) (sym e) ∙ ap (λ (l : List ℕ). list_numbers (take k fs) ++ l) (numbers_one f)) in
      ap (splice (4 * k) (finding_numbers f)) is
      ∙ ap (λ (n : ℕ). splice n (finding_numbers f) (splice 0 (list_numbers (take k fs)) old)) place
      ∙ splice_then 0 (list_numbers (take k fs)) (finding_numbers f) old (omega (arith, size))
      ∙ ap (λ (l : List ℕ). splice 0 l old) (sym more)

  pub all-put : (count : ℕ) (o : Outcome) (out : List ℕ) → take count fs ≡ found_in (length old / 4) o → out ≡ splice 0 (list_numbers (take count fs)) old → out ≡ numbers_written old o
  all-put count o out found is = is ∙ splice_front (list_numbers (take count fs)) old ∙ ap (λ (l : List Finding). list_numbers l ++ drop (length (list_numbers l)) old) found ∙ all-or-none old o
