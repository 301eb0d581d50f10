-- The walk gives the lines and the number of deltas of the single lookups, where anchors rise and pcs never fall.
--     Reached          where the walk is
--     goes_on_lem          one pc further
--     lines_are        the lines
--     reads_are        how many deltas were read
-- Assumes nothing.
use mathlib.Core.Path.{◌≡◌, refl, sym, ◌∙◌, ap, ap₂}
use mathlib.Core.Bool.{Bool, true, false, ◌&&◌, ◌||◌, cond}
use mathlib.Core.List.{List, [], ◌∷◌, ◌++◌, map}
use mathlib.Core.Logic.{◌⊎◌, inl, inr, ⊎_elim}
use Prim.Native.Nat.{ℕ, ◌+◌, ◌-◌, ◌^◌, ◌≤◌, ◌<◌, min}
use native.Mathlib.Omega.{arith}
use native.Mathlib.Nat.{zero-add}
use borrow.Author.Tests.{leb-true, leb-false, le-leb, lt-leb, ltb-true, ltb-false}
use lib.Dec.{eqb, leb, ltb}
use lib.IntN.{ℤ, pos, ◌+ℤ◌, +ℤ_assoc, +ℤ_idr}
use lib.ListN.{length, take, drop, length-append, length-take, length-drop, take-append-drop}
use lib.Seq.{drop-append-le, take-take, drop_at}
use mir.Syntax.{w8}
use mir.Val.{to_z}
use Rattle.format.specs.declared.entry.AbsLineInfo.{AbsLineInfo}
use Rattle.format.specs.Form.{Bytes, All}
use Rattle.line_lookup.specs.Lines.{base_of, raised, by_deltas}
use Rattle.line_lookup.specs.Inner.Scan.{added, summed}
use Rattle.line_lookup.proofs.Rising.{RisingFrom, Rising}
use Rattle.line_anchors.proofs.Tests.{drop_beyond}
use Rattle.line_batch.specs.Batch.{numbers_from, has, walked_by_any, count_below, ordered_from}
use Rattle.line_batch.specs.Inner.Walk.{Step, take_step, forward, line_in, lines_from, end_of}
use Rattle.line_batch.specs.Inner.Steps.{Writable}
use Rattle.line_batch.proofs.Counts.{within, within_true, within_low, within_high, has-from, count-joined, count_same, count_none}
use Rattle.line_batch.proofs.Bases.{base_low, plain_walk, base_from, Took, takes}

-- ## Lists
summed-append : (xs ys : Bytes) (z : ℤ) → summed z (xs ++ ys) ≡ summed (summed z xs) ys
summed-append [] ys z = refl
summed-append (x ∷ xs) ys z = summed-append xs ys (added z x)

-- a sum from y + z on is y and the sum from z on
added-from : (y z : ℤ) (d : ℕ) → added (y +ℤ z) d ≡ y +ℤ added z d
added-from y z d = by (eqb d 128)
  where
    by : (t : Bool) → cond t (y +ℤ z) (y +ℤ z +ℤ to_z w8 d) ≡ y +ℤ cond t z (z +ℤ to_z w8 d)
    by true = refl
    by false = +ℤ_assoc y z (to_z w8 d)

summed-from : (xs : Bytes) (y z : ℤ) → summed (y +ℤ z) xs ≡ y +ℤ summed z xs
summed-from [] y z = refl
summed-from (d ∷ xs) y z = ap (λ x. summed x xs) (added-from y z d) ∙ summed-from xs y (added z d)

-- from b on: what was reached, and what comes behind it
resume : (b : ℕ) (xs ys : Bytes) → drop b (xs ++ ys) ≡ drop b xs ++ drop (b + length (drop b xs)) (xs ++ ys)
resume b xs ys = by (leb b (length xs)) refl
  where
    by : (t : Bool) → leb b (length xs) ≡ t → drop b (xs ++ ys) ≡ drop b xs ++ drop (b + length (drop b xs)) (xs ++ ys)
    by true t =
        let low = leb-true b (length xs) t in
        let reached : b + length (drop b xs) ≡ length xs = simp length-drop (omega arith) in
        drop-append-le b xs ys low ∙ ap (λ l. drop b xs ++ l) (sym (ap (λ n. drop n (xs ++ ys)) reached ∙ drop_at xs ys (length xs) refl))
    by false t =
        let over = leb-false b (length xs) t in
        let none_left : drop b xs ≡ [] = drop_beyond xs b (omega arith) in
        let same : b ≡ b + 0 = omega arith in
        sym (ap (λ l. l ++ drop (b + length l) (xs ++ ys)) none_left ∙ ap (λ n. drop n (xs ++ ys)) (sym same))

further : (m n : ℕ) (ds : Bytes) → m ≤ n → take n ds ≡ take m ds ++ drop m (take n ds)
further m n ds h = sym (take-append-drop m (take n ds)) ∙ ap (λ l. l ++ drop m (take n ds)) (take-take m n ds h)

resumed : (b m n : ℕ) (ds : Bytes) → m ≤ n → drop b (take n ds) ≡ drop b (take m ds) ++ drop (b + length (drop b (take m ds))) (take n ds)
resumed b m n ds h =
    ap (drop b) (further m n ds h) ∙ resume b (take m ds) (drop m (take n ds)) ∙ ap (λ l. drop b (take m ds) ++ drop (b + length (drop b (take m ds))) l) (sym (further m n ds h))

-- ## A pc and the one before it
pub steady : (least q : ℕ) (qs : List ℕ) → ordered_from leb least (q ∷ qs) ≡ true → (least ≤ q) × (ordered_from leb q qs ≡ true)
steady least q qs e = by (leb least q) refl e
  where
    by : (t : Bool) → leb least q ≡ t → (t && ordered_from leb q qs) ≡ true → (least ≤ q) × (ordered_from leb q qs ≡ true)
    by true t e = (leb-true least q t, e)
    by false t e = absurd (let z : ◌≡◌ {A = ℕ} 0 1 = cc in omega arith)

module _ (line_defined : ℕ) (deltas : Bytes) (anchors : List AbsLineInfo) (up : Rising anchors) where
  abbrev base : ℕ → AbsLineInfo
  base pc = base_of pc (record { pc = 0; line = line_defined }) anchors

  abbrev part : ℕ → Bytes
  part pc = drop (base pc).pc (take (pc + 1) deltas)

  -- the deltas that rule 3 walks over
  abbrev walk : ℕ → List ℕ
  walk pc = numbers_from (base pc).pc (part pc)

  -- ## Where the walk is: at the deltas below `above`, with the base b
  pub record Reached (above : ℕ) (b : AbsLineInfo) (z : Step) : Type 0 where
    pub low : b.pc ≤ above
    pub later : (q : ℕ) → above ≤ q + 1 → base q ≡ base_of q b z.left
    pub rising : RisingFrom above z.left
    pub at_is : z.at ≡ b.pc + length (drop b.pc (take above deltas))
    pub from_is : z.from ≡ b.line
    pub sum_is : z.sum ≡ summed (pos 0) (drop b.pc (take above deltas))

  abbrev pub first : Step
  first = record { left = anchors; at = 0; from = line_defined; sum = pos 0; read = 0 }

  pub at_first : Reached 0 (record { pc = 0; line = line_defined }) first
  at_first = record { low = omega arith; later = λ q h. refl; rising = up; at_is = refl; from_is = refl; sum_is = refl }

  -- ## One pc further
  module _ (above : ℕ) (b : AbsLineInfo) (z : Step) (here : Reached above b z) (q : ℕ) (h : above ≤ q + 1) where
    abbrev took : Step
    took = take_step q z

    t : Took q above b z took
    t = takes q above b z here.rising

    abbrev c : AbsLineInfo
    c = base q

    is_base : c ≡ base_of q b z.left
    is_base = here.later q h

    -- where the new deltas begin: where the walk was, with the base it had; or at a new base, which is not before
    record From : Type 0 where
      not_before : z.at ≤ took.at
      base_at : c.pc ≤ took.at
      old_or_new : (b.pc ≡ c.pc) ⊎ (took.at ≡ c.pc)
      old_start : took.at ≡ z.at ⊎ took.at ≡ c.pc
      at_is : took.at + length (drop took.at (take (q + 1) deltas)) ≡ c.pc + length (part q)
      from_is : took.from ≡ c.line
      sum_is : summed took.sum (drop took.at (take (q + 1) deltas)) ≡ summed (pos 0) (part q)

    stands : z.at ≤ above
    stands = let low = here.low in let at = here.at_is in let size : length (drop b.pc (take above deltas)) ≤ above - b.pc = simp (length-drop, length-take) (omega arith) in omega arith

    reaches_base : b.pc ≤ z.at
    reaches_base = let at = here.at_is in omega arith

    from : From
    from = ⊎_elim
        (λ (s : (base_of q b z.left ≡ b) × (took.at ≡ z.at) × (took.from ≡ z.from) × (took.sum ≡ z.sum)).
        let same : c ≡ b = is_base ∙ s.0 in
        let at = s.1 in
        let whole = resumed b.pc above (q + 1) deltas h in
        let there : took.at ≡ b.pc + length (drop b.pc (take above deltas)) = at ∙ here.at_is in
        let split : part q ≡ drop b.pc (take above deltas) ++ drop took.at (take (q + 1) deltas) =
        ap (λ c. drop c.pc (take (q + 1) deltas)) same ∙ whole ∙ ap (λ n. drop b.pc (take above deltas) ++ drop n (take (q + 1) deltas)) (sym there) in
        let same-pc : c.pc ≡ b.pc = ap (λ c. c.pc) same in
        record {
          not_before = omega arith;
          base_at = omega (arith, reaches_base);
          old_or_new = inl (sym same-pc);
          old_start = inl at;
          at_is = omega (arith, simp length-append at (ap length split));
          from_is = s.2 ∙ here.from_is ∙ ap (λ c. c.line) (sym same);
          sum_is =
              ap (λ y. summed y (drop took.at (take (q + 1) deltas))) (s.3 ∙ here.sum_is)
              ∙ sym (summed-append (drop b.pc (take above deltas)) (drop took.at (take (q + 1) deltas)) (pos 0))
              ∙ ap (summed (pos 0)) (sym split);
        })
        (λ (s : (above ≤ (base_of q b z.left).pc) × (took.at ≡ (base_of q b z.left).pc) × (took.from ≡ (base_of q b z.left).line) × (took.sum ≡ pos 0)).
        let new : took.at ≡ c.pc = s.1 ∙ ap (λ c. c.pc) (sym is_base) in
        let over = s.0 in
        let first-at = s.1 in
        record {
          not_before = omega (arith, stands);
          base_at = omega arith;
          old_or_new = inr new;
          old_start = inr new;
          at_is = ap (λ n. n + length (drop n (take (q + 1) deltas))) new;
          from_is = s.2 ∙ ap (λ c. c.line) (sym is_base);
          sum_is = ap₂ (λ y n. summed y (drop n (take (q + 1) deltas))) s.3 new;
        })
        t.which

    pub goes_on_lem : Reached (q + 1) c (forward deltas q z)
    goes_on_lem = record {
      low = omega (arith, base_low anchors up line_defined q);
      later = λ q' k. here.later q' (omega arith) ∙ t.later q' (omega arith) ∙ ap (λ c. base_of q' c took.left) (sym is_base);
      rising = t.rising;
      at_is = from.at_is;
      from_is = from.from_is;
      sum_is = from.sum_is;
    }

    pub from-here : (forward deltas q z).from ≡ c.line
    from-here = from.from_is

    pub line-here : raised (pos (forward deltas q z).from +ℤ (forward deltas q z).sum) ≡ by_deltas c deltas anchors q
    line-here =
        let inside : c.pc + length (part q) ≤ q + 1 = let low = base_low anchors up line_defined q in simp (length-drop, length-take) (omega arith) in
        ap raised
        (ap₂ (λ l y. pos l +ℤ y) from.from_is from.sum_is ∙ sym (summed-from (part q) (pos c.line) (pos 0)) ∙ ap (λ y. summed y (part q)) (+ℤ_idr (pos c.line)) ∙ sym (plain_walk anchors up line_defined q (part q) inside))

    -- how many deltas are new
    size_new : min (length deltas) (forward deltas q z).at - min (length deltas) took.at ≡ length (drop took.at (take (q + 1) deltas))
    size_new = let size : length (drop took.at (take (q + 1) deltas)) ≡ min (q + 1) (length deltas) - took.at = simp (length-drop, length-take) refl in rw size (clamped (length deltas) (q + 1) took.at)
      where
        clamped : (n m a : ℕ) → min n (a + (min m n - a)) - min n a ≡ min m n - a
        clamped n m a = omega arith

    has_here : (i : ℕ) → has (walk q) i ≡ within c.pc (forward deltas q z).at i
    has_here i = has-from (part q) c.pc i ∙ ap (λ e. within c.pc e i) (sym from.at_is)

    -- what a test of the later lookups, which walk over nothing before this base, passes beside the new deltas
    module _ (any : ℕ → Bool) (none_before : (i : ℕ) → i < c.pc → any i ≡ false) where
      abbrev e : ℕ
      e = (forward deltas q z).at

      -- over the delta i one of them walks, or this one
      joined : (i : ℕ) → cond (leb z.at i) (has (walk q) i || any i) false ≡ (within took.at e i || cond (leb e i) (any i) false)
      joined i = rw (has_here i) (by (leb z.at i) refl)
        where
          behind : took.at ≤ e
          behind = omega arith

          in_walk : z.at ≤ i → (t : Bool) → leb c.pc i ≡ t → (u : Bool) → ltb i e ≡ u → (cond t u false || any i) ≡ (within took.at e i || cond (leb e i) (any i) false)
          in_walk h true t true u =
              let low = leb-true c.pc i t in
              let high = ltb-true i e u in
              let at-or-behind : took.at ≤ i = ⊎_elim (λ (s : took.at ≡ z.at). omega arith) (λ (s : took.at ≡ c.pc). omega arith) from.old_start in
              sym (ap (λ b. b || cond (leb e i) (any i) false) (within_true took.at e i at-or-behind high))
          in_walk h true t false u =
              let high = ltb-false i e u in
              sym (ap (λ b. b || cond (leb e i) (any i) false) (within_high took.at e i high) ∙ ap (λ b. cond b (any i) false) (le-leb e i high))
          in_walk h false t u v =
              let low = leb-false c.pc i t in
              let before : i < took.at = omega (arith, from.base_at) in
              none_before i low ∙ sym (ap (λ b. b || cond (leb e i) (any i) false) (within_low took.at e i before) ∙ ap (λ b. cond b (any i) false) (lt-leb e i (omega arith)))

          by : (t : Bool) → leb z.at i ≡ t → cond t (within c.pc e i || any i) false ≡ (within took.at e i || cond (leb e i) (any i) false)
          by true t = in_walk (leb-true z.at i t) (leb c.pc i) refl (ltb i e) refl
          by false t =
              let low = leb-false z.at i t in
              let before : i < took.at = omega (arith, from.not_before) in
              sym (ap (λ b. b || cond (leb e i) (any i) false) (within_low took.at e i before) ∙ ap (λ b. cond b (any i) false) (lt-leb e i (omega arith)))

      pub count-here : count_below (length deltas) (λ i. cond (leb z.at i) (has (walk q) i || any i) false)
          ≡ length (drop took.at (take (q + 1) deltas)) + count_below (length deltas) (λ i. cond (leb e i) (any i) false)
      count-here =
          count-joined took.at e (omega arith) (length deltas) (λ i. cond (leb z.at i) (has (walk q) i || any i) false) (λ i. cond (leb e i) (any i) false) (λ i k. joined i)
          (λ i k l. ap (λ b. cond b (any i) false) (lt-leb e i l))
          ∙ ap (λ n. n + count_below (length deltas) (λ i. cond (leb e i) (any i) false)) size_new

    read_here : (forward deltas q z).read ≡ z.read + length (drop took.at (take (q + 1) deltas))
    read_here = ap (λ n. n + length (drop took.at (take (q + 1) deltas))) t.read_is

    -- never more than the deltas before the next one, nor than there are
    read_low : z.read ≤ min z.at (length deltas) → (forward deltas q z).read ≤ min (forward deltas q z).at (length deltas)
    read_low k =
        let over = from.not_before in
        let size : length (drop took.at (take (q + 1) deltas)) ≡ min (q + 1) (length deltas) - took.at = simp (length-drop, length-take) refl in
        rw (read_here, size) (low z.read z.at took.at (q + 1) (length deltas) k over)
      where
        low : (r a b m n : ℕ) → r ≤ min a n → a ≤ b → r + (min m n - b) ≤ min (b + (min m n - b)) n
        low r a b m n h k = omega arith

  -- ## All pcs
  pub lines_are : (qs : List ℕ) (least above : ℕ) (b : AbsLineInfo) (z : Step) → Reached above b z → above ≤ least + 1 → ordered_from leb least qs ≡ true
      → (d : ℕ) (ds : Bytes) → deltas ≡ d ∷ ds → lines_from deltas z qs ≡ map (λ q. by_deltas (base q) deltas anchors q) qs
  lines_are [] least above b z here h s d ds e = refl
  lines_are (q ∷ qs) least above b z here h s d ds e =
      let p = steady least q qs s in
      let on : above ≤ q + 1 = let k = p.0 in omega arith in
      ap₂ (λ x xs. x ∷ xs) (ap (λ l. line_in l (forward deltas q z)) e ∙ line-here above b z here q on) (lines_are qs q (q + 1) (base q) (forward deltas q z) (goes_on_lem above b z here q on) (omega arith) p.1 d ds e)

  -- no sum on the way is too large, where the line of each pc's base is small
  pub writable : length deltas ≤ 16777216 → (qs : List ℕ) → All (λ q. (base q).line ≤ 2 ^ 62) qs → (least above : ℕ) (b : AbsLineInfo) (z : Step) → Reached above b z → above ≤ least + 1 → ordered_from leb least qs ≡ true
      → z.read ≤ min z.at (length deltas) → Writable deltas z qs
  writable few [] small least above b z here h s low = tt
  writable few (q ∷ qs) small least above b z here h s low =
      let p = steady least q qs s in
      let on : above ≤ q + 1 = let k = p.0 in omega arith in
      let lower = read_low above b z here q on low in
      let base-small : (base q).line ≤ 2 ^ 62 = small.0 in
      (omega arith, rw (from-here above b z here q on) base-small, omega arith, writable few qs small.1 q (q + 1) (base q) (forward deltas q z) (goes_on_lem above b z here q on) (omega arith) p.1 lower)

  -- later lookups walk over nothing before a base
  none_before : (qs : List ℕ) (least : ℕ) (b : AbsLineInfo) (z : Step) → Reached (least + 1) b z → ordered_from leb least qs ≡ true → (i : ℕ) → i < b.pc → walked_by_any walk qs i ≡ false
  none_before [] least b z here s i h = refl
  none_before (q ∷ qs) least b z here s i h =
      let p = steady least q qs s in
      let from : least ≤ q = p.0 in
      let later : b.pc ≤ (base q).pc = rw (here.later q (omega arith)) (base_from q (least + 1) b z.left here.rising here.low) in
      let this : has (walk q) i ≡ false = has-from (part q) (base q).pc i ∙ within_low (base q).pc ((base q).pc + length (part q)) i (omega arith) in
      ap (λ t. t || walked_by_any walk qs i) this ∙ none_before qs q (base q) (forward deltas q z) (goes_on_lem (least + 1) b z here q (omega arith)) p.1 i (omega arith)

  pub reads_are : (qs : List ℕ) (least above : ℕ) (b : AbsLineInfo) (z : Step) → Reached above b z → above ≤ least + 1 → ordered_from leb least qs ≡ true
      → (end_of deltas z qs).read ≡ z.read + count_below (length deltas) (λ i. cond (leb z.at i) (walked_by_any walk qs i) false)
  reads_are [] least above b z here h s = omega (arith, count_none (length deltas) (λ i. cond (leb z.at i) false false) (λ i. never (leb z.at i)))
    where
      never : (t : Bool) → cond t false false ≡ false
      never true = refl
      never false = refl
  reads_are (q ∷ qs) least above b z here h s =
      let p = steady least q qs s in
      let on : above ≤ q + 1 = let k = p.0 in omega arith in
      let next = goes_on_lem above b z here q on in
      let rest = reads_are qs q (q + 1) (base q) (forward deltas q z) next (omega arith) p.1 in
      let new = count-here above b z here q on (walked_by_any walk qs) (none_before qs q (base q) (forward deltas q z) next p.1) in
      omega (arith, rest, new, read_here above b z here q on)

  -- from the start: all the lookups of rule 3
  pub sweep_lines : (pcs : List ℕ) → ordered_from leb 0 pcs ≡ true → (d : ℕ) (ds : Bytes) → deltas ≡ d ∷ ds → lines_from deltas first pcs ≡ map (λ pc. by_deltas (base pc) deltas anchors pc) pcs
  sweep_lines pcs s = lines_are pcs 0 0 _ first at_first (omega arith) s

  pub sweep_reads : (pcs : List ℕ) → ordered_from leb 0 pcs ≡ true → (end_of deltas first pcs).read ≡ count_below (length deltas) (walked_by_any walk pcs)
  sweep_reads pcs s =
      reads_are pcs 0 0 _ first at_first (omega arith) s
      ∙ zero-add (count_below (length deltas) (λ i. cond (leb 0 i) (walked_by_any walk pcs i) false))
      ∙ count_same (length deltas) _ _ (λ i h. ap (λ t. cond t (walked_by_any walk pcs i) false) (le-leb 0 i (omega arith)))
