-- What the definitions say of the deltas that lookups walk over (specs/Batch.antt).
--     not-walked       what a lookup does not walk over does not matter to its line
--     walked_matters   what it walks over does: of deltas that are 0, as many, one more there is one line more
--     not-read         nor does what none of the lookups walks over, to their lines
--     read_most        at most all deltas are read; read_none: none for an empty list
--     read_distinct    as many as the list of all walks has distinct numbers
-- Assumes nothing.
use mathlib.Core.Path.{◌≡◌, refl, sym, ◌∙◌, ap, ap₂}
use mathlib.Core.Bool.{Bool, true, false, ◌||◌, cond, or_assoc, or-false}
use mathlib.Core.List.{List, [], ◌∷◌, ◌++◌, map}
use mathlib.Core.Logic.{◌⊎◌, inl, inr, ⊎_elim}
use mathlib.Core.Option.{Option, none, some, get_or}
use Prim.Native.Nat.{ℕ, zero, suc, ◌+◌, ◌-◌, ◌≤◌, ◌<◌, min}
use native.Mathlib.Omega.{arith}
use borrow.Author.Tests.{leb-true, leb-false, ltb-true, ltb-false, eqb-true}
use lib.Dec.{eqb, leb, ltb}
use lib.IntN.{ℤ, pos, ◌+ℤ◌, +ℤ_idr}
use lib.ListN.{length, take, drop, set, replicate, length-set, length-take, length-drop, length-replicate}
use lib.Seq.{set_out, take-set-le, take-set-lt, drop-set-lt, drop-set-add}
use Rattle.format.specs.declared.entry.AbsLineInfo.{AbsLineInfo}
use Rattle.format.specs.Form.{Bytes, All}
use Rattle.format.proofs.Every.{all_append}
use Rattle.line_lookup.specs.Lines.{rule2, base_of, stepped, walked, raised, line_of}
use Rattle.line_batch.specs.Batch.{numbers_from, unless_given, walked_by, has, walked_by_any, count_below, deltas_read}
use Rattle.line_batch.proofs.Counts.{within, has-from, count_same, count-joined, count_most, count_none}
use Rattle.line_batch.proofs.Whole.{given_line, given_none, other_walk}

-- ## A part of the deltas
within-not : (b e i : ℕ) → within b e i ≡ false → (i < b) ⊎ (e ≤ i)
within-not b e i w = by (leb b i) refl w
  where
    by : (t : Bool) → leb b i ≡ t → cond t (ltb i e) false ≡ false → (i < b) ⊎ (e ≤ i)
    by true t w = inr (ltb-false i e w)
    by false t w = inl (leb-false b i t)

within-is : (b e i : ℕ) → within b e i ≡ true → (b ≤ i) × (i < e)
within-is b e i w = by (leb b i) refl w
  where
    by : (t : Bool) → leb b i ≡ t → cond t (ltb i e) false ≡ true → (b ≤ i) × (i < e)
    by true t w = (leb-true b i t, ltb-true i e w)
    by false t w = absurd (let z : ◌≡◌ {A = ℕ} 0 1 = cc in omega arith)

-- a delta outside of the part is changed
part_kept : (b m i x : ℕ) (ds : Bytes) → within b (b + length (drop b (take m ds))) i ≡ false → drop b (take m (set ds i x)) ≡ drop b (take m ds)
part_kept b m i x ds w = by (leb m i) refl
  where
    by : (t : Bool) → leb m i ≡ t → drop b (take m (set ds i x)) ≡ drop b (take m ds)
    by true t = ap (drop b) (take-set-le m ds i x (leb-true m i t))
    by false t =
        ap (drop b) (take-set-lt m ds i x (leb-false m i t))
        ∙ ⊎_elim (λ (h : i < b). drop-set-lt b (take m ds) i x h)
        (λ (h : b + length (drop b (take m ds)) ≤ i). ap (drop b) (set_out (take m ds) i x (omega (arith, length-drop b (take m ds)))))
        (within-not b (b + length (drop b (take m ds))) i w)

-- a delta of the part is changed
part_changed : (b m i x : ℕ) (ds : Bytes) → b ≤ i → i < m → drop b (take m (set ds i x)) ≡ set (drop b (take m ds)) (i - b) x
part_changed b m i x ds h k =
    let same : b + (i - b) ≡ i = omega arith in
    ap (drop b) (take-set-lt m ds i x k) ∙ ap (λ j. drop b (set (take m ds) j x)) (sym same) ∙ drop-set-add b (take m ds) (i - b) x

-- ## By the number of the deltas alone
numbers_same : (b : ℕ) (ds es : Bytes) → length ds ≡ length es → numbers_from b ds ≡ numbers_from b es
numbers_same b [] [] e = refl
numbers_same b [] (x ∷ es) e = absurd (omega arith)
numbers_same b (d ∷ ds) [] e = absurd (omega arith)
numbers_same b (d ∷ ds) (x ∷ es) e = ap (λ l. b ∷ l) (numbers_same (b + 1) ds es (omega arith))

part_length : (b pc : ℕ) (ds : Bytes) → length (drop b (take (pc + 1) ds)) ≡ min (pc + 1) (length ds) - b
part_length b pc ds = simp (length-drop, length-take) refl

-- ## Deltas that are 0
abbrev Zero : ℕ → Type 0
Zero d = d ≡ 0

all_take : (m : ℕ) (xs : Bytes) → All Zero xs → All Zero (take m xs)
all_take zero xs all = tt
all_take (suc m) [] all = tt
all_take (suc m) (x ∷ xs) all = (all.0, all_take m xs all.1)

all_drop : (m : ℕ) (xs : Bytes) → All Zero xs → All Zero (drop m xs)
all_drop zero xs all = all
all_drop (suc m) [] all = tt
all_drop (suc m) (x ∷ xs) all = all_drop m xs all.1

all-zero : (n : ℕ) → All Zero (replicate n 0)
all-zero zero = tt
all-zero (suc n) = (refl, all-zero n)

zero_part : (b m n : ℕ) → All Zero (drop b (take m (replicate n 0)))
zero_part b m n = all_drop b (take m (replicate n 0)) (all_take m (replicate n 0) (all-zero n))

-- ## One lookup
module _ (instructions line : ℕ) (anchors : List AbsLineInfo) (pc : ℕ) where
  abbrev base : AbsLineInfo
  base = base_of pc (record { pc = 0; line = line }) anchors

  abbrev part : Bytes → Bytes
  part ds = drop base.pc (take (pc + 1) ds)

  same_walk : (ds es : Bytes) → length ds ≡ length es → walked_by instructions line ds anchors pc ≡ walked_by instructions line es anchors pc
  same_walk ds es e = ap (unless_given (rule2 instructions anchors pc)) (numbers_same base.pc (part ds) (part es) (part_length base.pc pc ds ∙ ap (λ n. min (pc + 1) n - base.pc) e ∙ sym (part_length base.pc pc es)))

  -- where rule 2 gives no line
  has_there : (ds : Bytes) (i : ℕ) → rule2 instructions anchors pc ≡ none → has (walked_by instructions line ds anchors pc) i ≡ within base.pc (base.pc + length (part ds)) i
  has_there ds i o = ap (λ l. has l i) (other_walk instructions line ds anchors pc o) ∙ has-from (part ds) base.pc i

  -- the line goes by rule 2, or by the part
  by_part : (ds es : Bytes) → length ds ≡ length es → part ds ≡ part es → line_of instructions line ds anchors pc ≡ line_of instructions line es anchors pc
  by_part [] [] e p = refl
  by_part [] (x ∷ es) e p = absurd (omega arith)
  by_part (d ∷ ds) [] e p = absurd (omega arith)
  by_part (d ∷ ds) (x ∷ es) e p = ap (λ l. get_or (rule2 instructions anchors pc) (raised (walked anchors base.pc (pos base.line) l))) p

  pub not-walked : (deltas : Bytes) (i x : ℕ) → has (walked_by instructions line deltas anchors pc) i ≡ false → line_of instructions line (set deltas i x) anchors pc ≡ line_of instructions line deltas anchors pc
  not-walked deltas i x e = by (rule2 instructions anchors pc) refl
    where
      by : (o : Option ℕ) → rule2 instructions anchors pc ≡ o → line_of instructions line (set deltas i x) anchors pc ≡ line_of instructions line deltas anchors pc
      by (some n) o = given_line instructions line (set deltas i x) anchors pc o ∙ sym (given_line instructions line deltas anchors pc o)
      by none o = by_part (set deltas i x) deltas (length-set deltas i x) (part_kept base.pc (pc + 1) i x deltas (sym (has_there deltas i o) ∙ e))

  -- ## Deltas that are 0
  zero_step : (k : ℕ) (z : ℤ) (d : ℕ) → d ≡ 0 → stepped anchors k z d ≡ z
  zero_step k z d e = ap (stepped anchors k z) e ∙ +ℤ_idr z

  zeros-walked : (xs : Bytes) (k : ℕ) (z : ℤ) → All Zero xs → walked anchors k z xs ≡ z
  zeros-walked [] k z all = refl
  zeros-walked (d ∷ xs) k z all = ap (λ y. walked anchors (k + 1) y xs) (zero_step k z d all.0) ∙ zeros-walked xs (k + 1) z all.1

  one-walked : (xs : Bytes) (k : ℕ) (z : ℤ) → All Zero xs → (j : ℕ) → j < length xs → walked anchors k z (set xs j 1) ≡ z +ℤ pos 1
  one-walked [] k z all j h = absurd (omega arith)
  one-walked (d ∷ xs) k z all zero h = zeros-walked xs (k + 1) (z +ℤ pos 1) all.1
  one-walked (d ∷ xs) k z all (suc j) h = ap (λ y. walked anchors (k + 1) y (set xs j 1)) (zero_step k z d all.0) ∙ one-walked xs (k + 1) z all.1 j (omega arith)

  -- the line of deltas, where rule 2 gives none
  by_walk : (ds : Bytes) → 0 < length ds → rule2 instructions anchors pc ≡ none → line_of instructions line ds anchors pc ≡ raised (walked anchors base.pc (pos base.line) (part ds))
  by_walk [] h o = absurd (omega arith)
  by_walk (d ∷ ds) h o = ap (λ o. get_or o (raised (walked anchors base.pc (pos base.line) (part (d ∷ ds))))) o

  pub walked_matters : (deltas : Bytes) (i : ℕ) → has (walked_by instructions line deltas anchors pc) i ≡ true
      → let zeros = replicate {A = ℕ} (length deltas) 0 in line_of instructions line (set zeros i 1) anchors pc ≡ line_of instructions line zeros anchors pc + 1
  walked_matters deltas i e = by (rule2 instructions anchors pc) refl
    where
      zeros : Bytes
      zeros = replicate (length deltas) 0

      as_many : length zeros ≡ length deltas
      as_many = length-replicate (length deltas) 0

      inside : rule2 instructions anchors pc ≡ none → (base.pc ≤ i) × (i < base.pc + length (part zeros))
      inside o = within-is base.pc (base.pc + length (part zeros)) i (sym (has_there zeros i o) ∙ ap (λ l. has l i) (same_walk zeros deltas as_many) ∙ e)

      by : (o : Option ℕ) → rule2 instructions anchors pc ≡ o → line_of instructions line (set zeros i 1) anchors pc ≡ line_of instructions line zeros anchors pc + 1
      by (some n) o = absurd (let none-there = sym (ap (λ l. has l i) (given_none instructions line deltas anchors pc o)) ∙ e in let z : ◌≡◌ {A = ℕ} 0 1 = cc in omega arith)
      by none o =
          let w = inside o in
          let low = w.0 in
          let high = w.1 in
          let size = part_length base.pc pc zeros in
          let all = zero_part base.pc (pc + 1) (length deltas) in
          let changed = part_changed base.pc (pc + 1) i 1 zeros low (omega arith) in
          by_walk (set zeros i 1) (rw (length-set zeros i 1) (omega arith)) o
          ∙ ap (λ l. raised (walked anchors base.pc (pos base.line) l)) changed
          ∙ ap raised (one-walked (part zeros) base.pc (pos base.line) all (i - base.pc) (omega arith))
          ∙ sym (ap (λ n. n + 1) (by_walk zeros (omega arith) o ∙ ap raised (zeros-walked (part zeros) base.pc (pos base.line) all)))

-- ## All lookups
pub not-read : (instructions line : ℕ) (deltas : Bytes) (anchors : List AbsLineInfo) (pcs : List ℕ) (i x : ℕ) → walked_by_any (walked_by instructions line deltas anchors) pcs i ≡ false
    → map (line_of instructions line (set deltas i x) anchors) pcs ≡ map (line_of instructions line deltas anchors) pcs
not-read instructions line deltas anchors [] i x e = refl
not-read instructions line deltas anchors (pc ∷ pcs) i x e =
    let one = either (has (walked_by instructions line deltas anchors pc) i) (walked_by_any (walked_by instructions line deltas anchors) pcs i) e in
    ap₂ (λ y ys. y ∷ ys) (not-walked instructions line anchors pc deltas i x one.0) (not-read instructions line deltas anchors pcs i x one.1)
  where
    either : (t u : Bool) → (t || u) ≡ false → (t ≡ false) × (u ≡ false)
    either true u e = absurd (let z : ◌≡◌ {A = ℕ} 0 1 = cc in omega arith)
    either false u e = (refl, e)

-- of an empty list
pub read_none : (instructions line : ℕ) (deltas : Bytes) (anchors : List AbsLineInfo) → deltas_read instructions line deltas anchors [] ≡ 0
read_none instructions line deltas anchors = count_none (length deltas) (walked_by_any (walked_by instructions line deltas anchors) []) (λ i. refl)

pub read_most : (instructions line : ℕ) (deltas : Bytes) (anchors : List AbsLineInfo) (pcs : List ℕ) → deltas_read instructions line deltas anchors pcs ≤ length deltas
read_most instructions line deltas anchors pcs = count_most (length deltas) (walked_by_any (walked_by instructions line deltas anchors) pcs)

-- a list with each of its numbers once
abbrev pub distinct : List ℕ → List ℕ
distinct [] = []
distinct (x ∷ xs) = let more = distinct xs in cond (has xs x) more (x ∷ more)

abbrev pub joined : (ℕ → List ℕ) → List ℕ → List ℕ
joined walk [] = []
joined walk (pc ∷ pcs) = walk pc ++ joined walk pcs

has-append : (xs ys : List ℕ) (i : ℕ) → has (xs ++ ys) i ≡ (has xs i || has ys i)
has-append [] ys i = refl
has-append (x ∷ xs) ys i = ap (λ t. eqb x i || t) (has-append xs ys i) ∙ sym (or_assoc (eqb x i) (has xs i) (has ys i))

has-joined : (walk : ℕ → List ℕ) (pcs : List ℕ) (i : ℕ) → has (joined walk pcs) i ≡ walked_by_any walk pcs i
has-joined walk [] i = refl
has-joined walk (pc ∷ pcs) i = has-append (walk pc) (joined walk pcs) i ∙ ap (λ t. has (walk pc) i || t) (has-joined walk pcs i)

-- numbers below n, counted
count_distinct : (n : ℕ) (xs : List ℕ) → All (λ x. x < n) xs → count_below n (has xs) ≡ length (distinct xs)
count_distinct n [] all = count_none n (has []) (λ i. refl)
count_distinct n (x ∷ xs) all = by (has xs x) refl (count_distinct n xs all.1)
  where
    -- it comes again
    again : has xs x ≡ true → (i : ℕ) → (t : Bool) → eqb x i ≡ t → (t || has xs i) ≡ has xs i
    again e i true t = sym (ap (has xs) (sym (eqb-true x i t)) ∙ e)
    again e i false t = refl

    -- it does not
    new : (i : ℕ) → eqb x i ≡ within x (x + 1) i
    new i = sym (or-false (eqb x i)) ∙ has-from (0 ∷ []) x i

    by : (t : Bool) → has xs x ≡ t → count_below n (has xs) ≡ length (distinct xs) → count_below n (has (x ∷ xs)) ≡ length (cond t (distinct xs) (x ∷ distinct xs))
    by true e rest = count_same n (has (x ∷ xs)) (has xs) (λ i h. again e i (eqb x i) refl) ∙ rest
    by false e rest =
        let under = all.0 in
        let more = count-joined x (x + 1) (omega arith) n (has (x ∷ xs)) (has xs) (λ i h. ap (λ t. t || has xs i) (new i)) (λ i h k. let same : i ≡ x = omega arith in ap (has xs) same ∙ e) in
        omega arith

numbers_below : (ds : Bytes) (b n : ℕ) → (0 < length ds → b + length ds ≤ n) → All (λ j. j < n) (numbers_from b ds)
numbers_below [] b n h = tt
numbers_below (d ∷ ds) b n h = let all = h (omega arith) in (omega arith, numbers_below ds (b + 1) n (λ k. omega arith))

module _ (instructions line : ℕ) (deltas : Bytes) (anchors : List AbsLineInfo) where
  walked-below : (pc : ℕ) → All (λ j. j < length deltas) (walked_by instructions line deltas anchors pc)
  walked-below pc = by (rule2 instructions anchors pc)
    where
      by : (o : Option ℕ) → let base = base_of pc (record { pc = 0; line = line }) anchors in All (λ j. j < length deltas) (unless_given o (numbers_from base.pc (drop base.pc (take (pc + 1) deltas))))
      by none = let base = base_of pc (record { pc = 0; line = line }) anchors in numbers_below (drop base.pc (take (pc + 1) deltas)) base.pc (length deltas) (λ h. omega (arith, part_length base.pc pc deltas))
      by (some n) = tt

  joined-below : (pcs : List ℕ) → All (λ j. j < length deltas) (joined (walked_by instructions line deltas anchors) pcs)
  joined-below [] = tt
  joined-below (pc ∷ pcs) = all_append (λ j. j < length deltas) (walked_by instructions line deltas anchors pc) (joined (walked_by instructions line deltas anchors) pcs) (walked-below pc) (joined-below pcs)

  pub read_distinct : (pcs : List ℕ) → deltas_read instructions line deltas anchors pcs ≡ length (distinct (joined (walked_by instructions line deltas anchors) pcs))
  read_distinct pcs =
      count_same (length deltas) _ _ (λ i h. sym (has-joined (walked_by instructions line deltas anchors) pcs i))
      ∙ count_distinct (length deltas) (joined (walked_by instructions line deltas anchors) pcs) (joined-below pcs)
