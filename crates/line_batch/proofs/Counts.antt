-- Counting.
--     has-from         of numbers in a row: those from the first up to the last
--     count_same       by equal tests
--     count-joined     a range, and what passes another test beside it
--     count_most       at most all
-- Assumes nothing.
use mathlib.Core.Path.{◌≡◌, refl, sym, ◌∙◌, ap}
use mathlib.Core.Bool.{Bool, true, false, ◌||◌, cond}
use mathlib.Core.List.{[], ◌∷◌}
use Prim.Native.Nat.{ℕ, zero, suc, ◌+◌, ◌-◌, ◌≤◌, ◌<◌, min}
use native.Mathlib.Omega.{arith}
use borrow.Author.Tests.{eqb-true, eqb-false, lt-ltb, le-ltb, le-leb, lt-leb, ltb-true, ltb-false, leb-true, leb-false}
use lib.Dec.{eqb, leb, ltb}
use lib.ListN.{length}
use Rattle.format.specs.Form.{Bytes}
use Rattle.line_batch.specs.Batch.{numbers_from, has, count_below}

-- from b on, up to e and without it
abbrev pub within : ℕ → ℕ → ℕ → Bool
within b e i = cond (leb b i) (ltb i e) false

pub within_true : (b e i : ℕ) → b ≤ i → i < e → within b e i ≡ true
within_true b e i h k = rw (le-leb b i h) (lt-ltb i e k)

pub within_low : (b e i : ℕ) → i < b → within b e i ≡ false
within_low b e i h = rw (lt-leb b i h)

pub within_high : (b e i : ℕ) → e ≤ i → within b e i ≡ false
within_high b e i h = by (leb b i)
  where
    by : (t : Bool) → cond t (ltb i e) false ≡ false
    by true = le-ltb i e h
    by false = refl

pub has-from : (ds : Bytes) (b i : ℕ) → has (numbers_from b ds) i ≡ within b (b + length ds) i
has-from [] b i = by (leb b i) refl
  where
    by : (t : Bool) → leb b i ≡ t → false ≡ cond t (ltb i (b + 0)) false
    by true h = sym (le-ltb i (b + 0) (omega (arith, leb-true b i h)))
    by false h = refl
has-from (d ∷ ds) b i = by (eqb b i) refl (has-from ds (b + 1) i)
  where
    by : (t : Bool) → eqb b i ≡ t → has (numbers_from (b + 1) ds) i ≡ within (b + 1) (b + 1 + length ds) i → (t || has (numbers_from (b + 1) ds) i) ≡ within b (b + suc (length ds)) i
    by true h go = let same = eqb-true b i h in sym (within_true b (b + suc (length ds)) i (omega arith) (omega arith))
    by false h go = go ∙ rest (leb (b + 1) i) refl
      where
        rest : (t : Bool) → leb (b + 1) i ≡ t → cond t (ltb i (b + 1 + length ds)) false ≡ within b (b + suc (length ds)) i
        rest true k =
            let over = leb-true (b + 1) i k in
            let same : b + 1 + length ds ≡ b + suc (length ds) = omega arith in
            sym (rw (le-leb b i (omega arith), ← same))
        rest false k =
            let under = leb-false (b + 1) i k in
            let apart = eqb-false b i h in
            sym (within_low b (b + suc (length ds)) i (strict b i under apart))
          where
            strict : (b i : ℕ) → i < b + 1 → (b ≡ i → ⊥) → i < b
            strict b i h k = omega arith

pub count_same : (n : ℕ) (p q : ℕ → Bool) → ((i : ℕ) → i < n → p i ≡ q i) → count_below n p ≡ count_below n q
count_same zero p q h = refl
count_same (suc n) p q h = let here = h n (omega arith) in let rest = count_same n p q (λ i k. h i (omega arith)) in rw (here, rest)

pub count_none : (n : ℕ) (p : ℕ → Bool) → ((i : ℕ) → p i ≡ false) → count_below n p ≡ 0
count_none zero p h = refl
count_none (suc n) p h = let rest = count_none n p h in rw (h n) (omega arith)

pub count_most : (n : ℕ) (p : ℕ → Bool) → count_below n p ≤ n
count_most zero p = omega arith
count_most (suc n) p = by (p n) (count_most n p)
  where
    by : (t : Bool) → count_below n p ≤ n → cond t 1 0 + count_below n p ≤ suc n
    by true h = omega arith
    by false h = omega arith

-- p is: from a up to e, or q, which nothing from a up to e passes
pub count-joined : (a e : ℕ) → a ≤ e → (n : ℕ) (p q : ℕ → Bool) → ((i : ℕ) → i < n → p i ≡ (within a e i || q i)) → ((i : ℕ) → a ≤ i → i < e → q i ≡ false)
    → count_below n p ≡ (min n e - min n a) + count_below n q
count-joined a e h zero p q is apart = omega arith
count-joined a e h (suc n) p q is apart = by (leb a n) refl (ltb n e) refl (count-joined a e h n p q (λ i k. is i (omega arith)) apart)
  where
    by : (t : Bool) → leb a n ≡ t → (u : Bool) → ltb n e ≡ u → count_below n p ≡ (min n e - min n a) + count_below n q → cond (p n) 1 0 + count_below n p ≡ (min (suc n) e - min (suc n) a) + (cond (q n) 1 0 + count_below n q)
    by true t true u rest =
        let low = leb-true a n t in
        let high = ltb-true n e u in
        let yes-p : p n ≡ true = is n (omega arith) ∙ ap (λ b. b || q n) (within_true a e n low high) in
        let no-q : q n ≡ false = apart n low high in
        rw (yes-p, no-q) (omega (arith, rest))
    by true t false u rest =
        let low = leb-true a n t in
        let high = ltb-false n e u in
        let same : p n ≡ q n = is n (omega arith) ∙ ap (λ b. b || q n) (within_high a e n high) in
        rw same (omega (arith, rest))
    by false t u v rest =
        let low = leb-false a n t in
        let same : p n ≡ q n = is n (omega arith) ∙ ap (λ b. b || q n) (within_low a e n low) in
        rw same (omega (arith, rest))
