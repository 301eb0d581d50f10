-- The pcs in two parts: those at the front that rule 2 answers, and the others, which it does not answer.
--     passes       where passing anchors up to a pc leads
--     Parts        the two parts; `numbers` are the lines that rule 2 gives
--     parts        what passing anchors by their numbers gives; where there are not as many anchors as instructions the front is empty
-- Assumes nothing.
use mathlib.Core.Path.{◌≡◌, refl, sym, ◌∙◌, ap}
use mathlib.Core.Bool.{Bool, true, false, cond}
use mathlib.Core.List.{List, [], ◌∷◌, ◌++◌, map}
use mathlib.Core.Option
use mathlib.Core.Option.{Option, none, some}
use Prim.Native.Nat.{ℕ, zero, suc, ◌+◌, ◌≤◌, ◌<◌}
use native.Mathlib.Numerals.{add-one}
use native.Mathlib.Omega.{arith}
use borrow.Author.Tests.{leb-true, leb-false, ltb-true, ltb-false}
use lib.Dec.{eqb, leb, ltb}
use lib.ListN.{length, drop, get_elem?}
use Rattle.format.specs.Form.{All}
use Rattle.format.specs.declared.entry.AbsLineInfo.{AbsLineInfo}
use Rattle.line_lookup.specs.Lines.{rule2}
use Rattle.line_batch.specs.Batch.{ordered_from, never_falls}
use Rattle.line_batch.specs.Inner.Numbered.{Passed, pass_up, pass_to, numbered_from, none_passed}
use Rattle.line_batch.proofs.Judging.{falls_first}
use Rattle.line_batch.proofs.Sweeps.{steady}

abbrev line_there : List AbsLineInfo → ℕ → Option ℕ
line_there anchors i = Option.map (λ (a : AbsLineInfo). a.line) (get_elem? anchors i)

first_of : (n : ℕ) (xs : List AbsLineInfo) {a : AbsLineInfo} {more : List AbsLineInfo} → a ∷ more ≡ drop n xs → (get_elem? xs n ≡ some a) × (more ≡ drop (suc n) xs)
first_of zero [] e = absurd (let z : ◌≡◌ {A = ℕ} 0 1 = cc in omega arith)
first_of (suc n) [] e = absurd (let z : ◌≡◌ {A = ℕ} 0 1 = cc in omega arith)
first_of zero (x ∷ xs) {a} {more} e = let one : x ≡ a = cc in let rest : more ≡ xs = cc in (ap some one, rest)
first_of (suc n) (x ∷ xs) e = first_of n xs e

none_of : (n : ℕ) (xs : List AbsLineInfo) → [] ≡ drop n xs → length xs ≤ n
none_of n [] e = omega arith
none_of zero (x ∷ xs) e = absurd (let z : ◌≡◌ {A = ℕ} 0 1 = cc in omega arith)
none_of (suc n) (x ∷ xs) e = omega (arith, none_of n xs e)

beyond : (i : ℕ) (xs : List AbsLineInfo) → length xs ≤ i → line_there xs i ≡ none
beyond i [] h = refl
beyond zero (x ∷ xs) h = absurd (omega arith)
beyond (suc i) (x ∷ xs) h = beyond i xs (omega arith)

module _ (anchors : List AbsLineInfo) where
  -- where passing is: so many anchors were passed, and the line is the last one's
  record At (left : List AbsLineInfo) (number line : ℕ) : Type 0 where
    left_is : left ≡ drop number anchors
    line_is : (i : ℕ) → number ≡ suc i → line_there anchors i ≡ some line

  passes : (pc : ℕ) → pc < length anchors → (left : List AbsLineInfo) (number line : ℕ) → At left number line → number ≤ pc + 1
      → let z = pass_up pc left number line in At z.left z.number z.line × (z.number ≡ pc + 1)
  passes pc h [] number line at low = let all = none_of number anchors at.left_is in (at, omega arith)
  passes pc h (a ∷ more) number line at low = by (leb number pc) refl (passes pc h more (number + 1) a.line)
    where
      one : (get_elem? anchors number ≡ some a) × (more ≡ drop (suc number) anchors)
      one = first_of number anchors at.left_is

      next : At more (number + 1) a.line
      next = record {
        left_is = one.1 ∙ ap (λ n. drop n anchors) (sym (add-one number));
        line_is = λ i e. let same : i ≡ number = omega arith in ap (line_there anchors) same ∙ ap (Option.map (λ (a : AbsLineInfo). a.line)) one.0;
      }

      by : (t : Bool) → leb number pc ≡ t
          → (At more (number + 1) a.line → number + 1 ≤ pc + 1 → let z = pass_up pc more (number + 1) a.line in At z.left z.number z.line × (z.number ≡ pc + 1))
          → let z = cond t (pass_up pc more (number + 1) a.line) (record { left = a ∷ more; number = number; line = line }) in At z.left z.number z.line × (z.number ≡ pc + 1)
      by true t go = let under = leb-true number pc t in go next (omega arith)
      by false t go = let over = leb-false number pc t in (at, omega arith)

  module _ (instructions : ℕ) where
    pub record Parts (numbers pcs : List ℕ) : Type 0 where
      pub front : List ℕ
      pub back : List ℕ
      pub is : pcs ≡ front ++ back
      pub given : map (rule2 instructions anchors) front ≡ map some numbers
      pub others : All (λ pc. rule2 instructions anchors pc ≡ none) back

    -- from a pc on that is not below their number
    none-there : (pc : ℕ) → length anchors ≤ pc → rule2 instructions anchors pc ≡ none
    none-there pc h = by (eqb (length anchors) instructions)
      where
        by : (t : Bool) → cond t (line_there anchors pc) none ≡ none
        by true = beyond pc anchors h
        by false = refl

    all_beyond : (pc : ℕ) → length anchors ≤ pc → (pcs : List ℕ) → ordered_from leb pc pcs ≡ true → All (λ pc. rule2 instructions anchors pc ≡ none) (pc ∷ pcs)
    all_beyond pc h [] s = (none-there pc h, tt)
    all_beyond pc h (q ∷ qs) s = let p = steady pc q qs s in let on : length anchors ≤ q = let k = p.0 in omega arith in (none-there pc h, all_beyond q on qs p.1)

    not_full : eqb (length anchors) instructions ≡ false → (pcs : List ℕ) → All (λ pc. rule2 instructions anchors pc ≡ none) pcs
    not_full e [] = tt
    not_full e (pc ∷ pcs) = (ap (λ t. cond t (line_there anchors pc) none) e, not_full e pcs)

    module _ (same : eqb (length anchors) instructions ≡ true) where
      numbered_parts : (pcs : List ℕ) (least : ℕ) (z : Passed) → At z.left z.number z.line → z.number ≤ least + 1 → ordered_from leb least pcs ≡ true → Parts (numbered_from (length anchors) z pcs) pcs
      numbered_parts [] least z at low s = record { front = []; back = []; is = refl; given = refl; others = tt }
      numbered_parts (pc ∷ pcs) least z at low s = let p = steady least pc pcs s in by p.0 p.1 (ltb pc (length anchors)) refl (λ to number. numbered_parts pcs pc (pass_to pc z) to number p.1)
        where
          by : least ≤ pc → ordered_from leb pc pcs ≡ true → (t : Bool) → ltb pc (length anchors) ≡ t
              → (At (pass_to pc z).left (pass_to pc z).number (pass_to pc z).line → (pass_to pc z).number ≤ pc + 1 → Parts (numbered_from (length anchors) (pass_to pc z) pcs) pcs)
              → Parts (cond t ((pass_to pc z).line ∷ numbered_from (length anchors) (pass_to pc z) pcs) []) (pc ∷ pcs)
          by on more true t go =
              let to = passes pc (ltb-true pc (length anchors) t) z.left z.number z.line at (omega arith) in
              let number = to.1 in
              let rest = go to.0 (omega arith) in
              let here : rule2 instructions anchors pc ≡ some (pass_to pc z).line =
              ap (λ t. cond t (line_there anchors pc) none) same ∙ to.0.line_is pc (number ∙ add-one pc) in
              record {
                front = pc ∷ rest.front;
                back = rest.back;
                is = ap (λ l. pc ∷ l) rest.is;
                given = (λ i. here i ∷ rest.given i);
                others = rest.others;
              }
          by on more false t go = record { front = []; back = pc ∷ pcs; is = refl; given = refl; others = all_beyond pc (ltb-false pc (length anchors) t) pcs more }

    pub parts : (pcs : List ℕ) → never_falls pcs ≡ true → Parts (cond (eqb (length anchors) instructions) (numbered_from (length anchors) (none_passed anchors) pcs) []) pcs
    parts pcs s = by (eqb (length anchors) instructions) refl
      where
        by : (t : Bool) → eqb (length anchors) instructions ≡ t → Parts (cond t (numbered_from (length anchors) (none_passed anchors) pcs) []) pcs
        by true e = numbered_parts e pcs 0 (none_passed anchors) (record { left_is = refl; line_is = λ i e. absurd (omega arith) }) (omega arith) (sym (falls_first pcs) ∙ s)
        by false e = record { front = []; back = pcs; is = refl; given = refl; others = not_full e pcs }
