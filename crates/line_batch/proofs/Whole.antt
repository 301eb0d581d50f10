-- The two writers together give the lines and the number of deltas of the single lookups, where nothing is refused.
--     Passes           what the checks have settled
--     all_lines        the lines
--     all_reads        how many deltas were read
--     all_writable     no sum on the way is too large
-- Assumes nothing.
use mathlib.Core.Path.{◌≡◌, refl, sym, ◌∙◌, ap, ap₂}
use mathlib.Core.Bool.{Bool, true, false, ◌&&◌, ◌||◌, cond}
use mathlib.Core.List.{List, [], ◌∷◌, ◌++◌, map, map-append}
use mathlib.Core.Option.{Option, none, some, get_or}
use Prim.Native.Nat.{ℕ, suc, ◌+◌, ◌≤◌}
use native.Mathlib.Omega.{arith}
use borrow.Author.Tests.{leb-true, ltb-true, le-leb}
use lib.Dec.{eqb, leb, ltb}
use lib.ListN.{length, take, drop, length-append}
use lib.Seq.{drop_at}
use Rattle.format.specs.Limits.{MOST}
use Rattle.format.specs.declared.entry.AbsLineInfo.{AbsLineInfo}
use Rattle.format.specs.declared.refusal.Refusal.TheVariants.{LineTooLarge, LentSpace, AnchorOrder, PcOrder}
use Rattle.format.specs.Form.{Bytes, All}
use Rattle.line_lookup.specs.Lines.{rule2, base_of, by_deltas, line_of, large}
use Rattle.line_lookup.proofs.Range.{all-low, base_low}
use Rattle.line_lookup.proofs.Rising.{RisingFrom, Rising}
use Rattle.line_batch.specs.Batch.{numbers_from, unless_given, walked_by, has, walked_by_any, deltas_read, ordered_from, below, rises, never_falls, refusal_of}
use Rattle.line_batch.specs.Inner.Numbered.{none_passed, numbered_from}
use Rattle.line_batch.specs.Inner.Walk.{Step, lines_from, end_of, forward}
use Rattle.line_batch.specs.Inner.Steps.{Writable}
use Rattle.line_batch.proofs.Counts.{count_same}
use Rattle.line_batch.proofs.Judging.{falls_first}
use Rattle.line_batch.proofs.Parted.{Parts, parts}
use Rattle.line_batch.proofs.Sweeps.{steady, first, at_first, sweep_lines, sweep_reads, writable}

-- ## What the checks have settled
up_from : (a : AbsLineInfo) (more : List AbsLineInfo) → ordered_from below a more ≡ true → RisingFrom (a.pc + 1) more
up_from a [] e = tt
up_from a (b ∷ more) e = by (ltb a.pc b.pc) refl e (up_from b more)
  where
    by : (t : Bool) → ltb a.pc b.pc ≡ t → (t && ordered_from below b more) ≡ true → (ordered_from below b more ≡ true → RisingFrom (b.pc + 1) more) → (a.pc + 1 ≤ b.pc) × RisingFrom (b.pc + 1) more
    by true t e go = let less = ltb-true a.pc b.pc t in (omega arith, go e)
    by false t e go = absurd (let z : ◌≡◌ {A = ℕ} 0 1 = cc in omega arith)

up : (anchors : List AbsLineInfo) → rises anchors ≡ true → Rising anchors
up [] e = tt
up (a ∷ more) e = (omega arith, up_from a more e)

pub record Passes (line : ℕ) (anchors : List AbsLineInfo) (space : ℕ) (pcs : List ℕ) : Type 0 where
  pub small : large line anchors ≡ false
  pub rising : Rising anchors
  pub steadily : never_falls pcs ≡ true
  pub room : length pcs ≤ space

pub passes : (line : ℕ) (anchors : List AbsLineInfo) (space : ℕ) (pcs : List ℕ) → refusal_of line anchors space pcs ≡ none → Passes line anchors space pcs
passes line anchors space pcs e = by (large line anchors) refl (rises anchors) refl (never_falls pcs) refl (leb (length pcs) space) refl e
  where
    by : (t : Bool) → large line anchors ≡ t → (u : Bool) → rises anchors ≡ u → (v : Bool) → never_falls pcs ≡ v → (w : Bool) → leb (length pcs) space ≡ w
        → cond t (some LineTooLarge) (cond u (cond v (cond w none (some LentSpace)) (some PcOrder)) (some AnchorOrder)) ≡ none → Passes line anchors space pcs
    by false t true u true v true w e = record { small = t; rising = up anchors u; steadily = v; room = leb-true (length pcs) space w }
    by true t u x v y w z e = absurd (let z : ◌≡◌ {A = ℕ} 0 1 = cc in omega arith)
    by false t false u v y w z e = absurd (let z : ◌≡◌ {A = ℕ} 0 1 = cc in omega arith)
    by false t true u false v w z e = absurd (let z : ◌≡◌ {A = ℕ} 0 1 = cc in omega arith)
    by false t true u true v false w e = absurd (let z : ◌≡◌ {A = ℕ} 0 1 = cc in omega arith)

-- ## Lists
ordered-back : (front back : List ℕ) (least : ℕ) → ordered_from leb least (front ++ back) ≡ true → ordered_from leb 0 back ≡ true
ordered-back [] [] least s = refl
ordered-back [] (q ∷ qs) least s = ap (λ t. t && ordered_from leb q qs) (le-leb 0 q (omega arith)) ∙ (steady least q qs s).1
ordered-back (f ∷ front) back least s = ordered-back front back f (steady least f (front ++ back) s).1

of-all : {P : ℕ → Type 0} → ((q : ℕ) → P q) → (qs : List ℕ) → All P qs
of-all p [] = tt
of-all p (q ∷ qs) = (p q, of-all p qs)

as_many : (f : ℕ → Option ℕ) (front numbers : List ℕ) → map f front ≡ map some numbers → length front ≡ length numbers
as_many f [] [] e = refl
as_many f [] (n ∷ numbers) e = absurd (let z : ◌≡◌ {A = ℕ} 0 1 = cc in omega arith)
as_many f (q ∷ front) [] e = absurd (let z : ◌≡◌ {A = ℕ} 0 1 = cc in omega arith)
as_many f (q ∷ front) (n ∷ numbers) e = ap suc (as_many f front numbers (cc))

module _ (instructions line : ℕ) (deltas : Bytes) (anchors : List AbsLineInfo) where
  abbrev the_line : ℕ → ℕ
  the_line pc = line_of instructions line deltas anchors pc

  abbrev base : ℕ → AbsLineInfo
  base pc = base_of pc (record { pc = 0; line = line }) anchors

  abbrev walk : ℕ → List ℕ
  walk pc = numbers_from (base pc).pc (drop (base pc).pc (take (pc + 1) deltas))

  abbrev over : ℕ → List ℕ
  over pc = walked_by instructions line deltas anchors pc

  -- ## One pc
  pub given_line : (pc : ℕ) {n : ℕ} → rule2 instructions anchors pc ≡ some n → the_line pc ≡ n
  given_line pc {n} e = by deltas anchors e
    where
      no : {A : Type 0} (t : Bool) → cond t none none ≡ some n → A
      no true e = absurd (let z : ◌≡◌ {A = ℕ} 0 1 = cc in omega arith)
      no false e = absurd (let z : ◌≡◌ {A = ℕ} 0 1 = cc in omega arith)

      by : (ds : Bytes) (xs : List AbsLineInfo) → rule2 instructions xs pc ≡ some n → line_of instructions line ds xs pc ≡ n
      by [] [] e = no (eqb 0 instructions) e
      by [] (a ∷ xs) e = ap (λ o. get_or o 0) e
      by (d ∷ ds) xs e = ap (λ o. get_or o (by_deltas (base_of pc (record { pc = 0; line = line }) xs) (d ∷ ds) xs pc)) e

  pub given_none : (pc : ℕ) {n : ℕ} → rule2 instructions anchors pc ≡ some n → over pc ≡ []
  given_none pc e = ap (λ o. unless_given o (walk pc)) e

  pub other_walk : (pc : ℕ) → rule2 instructions anchors pc ≡ none → over pc ≡ walk pc
  other_walk pc e = ap (λ o. unless_given o (walk pc)) e

  -- ## The front
  front-lines : (front numbers : List ℕ) → map (rule2 instructions anchors) front ≡ map some numbers → map the_line front ≡ numbers
  front-lines [] [] e = refl
  front-lines [] (n ∷ numbers) e = absurd (let z : ◌≡◌ {A = ℕ} 0 1 = cc in omega arith)
  front-lines (q ∷ front) [] e = absurd (let z : ◌≡◌ {A = ℕ} 0 1 = cc in omega arith)
  front-lines (q ∷ front) (n ∷ numbers) e = ap₂ (λ x xs. x ∷ xs) (given_line q {n = n} (cc)) (front-lines front numbers (cc))

  front-none : (i : ℕ) (front numbers back : List ℕ) → map (rule2 instructions anchors) front ≡ map some numbers → walked_by_any over (front ++ back) i ≡ walked_by_any over back i
  front-none i [] numbers back e = refl
  front-none i (q ∷ front) [] back e = absurd (let z : ◌≡◌ {A = ℕ} 0 1 = cc in omega arith)
  front-none i (q ∷ front) (n ∷ numbers) back e = ap (λ l. has l i || walked_by_any over (front ++ back) i) (given_none q {n = n} (cc)) ∙ front-none i front numbers back (cc)

  -- ## The back
  back_walk : (i : ℕ) (back : List ℕ) → All (λ pc. rule2 instructions anchors pc ≡ none) back → walked_by_any over back i ≡ walked_by_any walk back i
  back_walk i [] all = refl
  back_walk i (q ∷ back) all = ap₂ (λ l t. has l i || t) (other_walk q all.0) (back_walk i back all.1)

-- without deltas every line is 0
no_deltas : (instructions line : ℕ) (anchors : List AbsLineInfo) (z : Step) (back : List ℕ) → All (λ pc. rule2 instructions anchors pc ≡ none) back → lines_from [] z back ≡ map (line_of instructions line [] anchors) back
no_deltas instructions line anchors z [] all = refl
no_deltas instructions line anchors z (q ∷ back) all = ap₂ (λ x xs. x ∷ xs) (by anchors all.0) (no_deltas instructions line anchors (forward [] q z) back all.1)
  where
    by : (xs : List AbsLineInfo) → rule2 instructions xs q ≡ none → 0 ≡ line_of instructions line [] xs q
    by [] e = refl
    by (a ∷ xs) e = sym (ap (λ o. get_or o 0) e)

with_deltas : (instructions line d : ℕ) (ds : Bytes) (anchors : List AbsLineInfo) (back : List ℕ) → All (λ pc. rule2 instructions anchors pc ≡ none) back
    → map (λ pc. by_deltas (base_of pc (record { pc = 0; line = line }) anchors) (d ∷ ds) anchors pc) back ≡ map (line_of instructions line (d ∷ ds) anchors) back
with_deltas instructions line d ds anchors [] all = refl
with_deltas instructions line d ds anchors (q ∷ back) all =
    ap₂ (λ x xs. x ∷ xs) (sym (ap (λ o. get_or o (by_deltas (base_of q (record { pc = 0; line = line }) anchors) (d ∷ ds) anchors q)) all.0)) (with_deltas instructions line d ds anchors back all.1)

-- ## All pcs
module _ (instructions line : ℕ) (deltas : Bytes) (anchors : List AbsLineInfo) (space : ℕ) (pcs : List ℕ) (ok : Passes line anchors space pcs) where
  -- what the first writer writes
  abbrev pub numbers : List ℕ
  numbers = cond (eqb (length anchors) instructions) (numbered_from (length anchors) (none_passed anchors) pcs) []

  p : Parts anchors instructions numbers pcs
  p = parts anchors instructions pcs ok.steadily

  size : length p.front ≡ length numbers
  size = as_many (rule2 instructions anchors) p.front numbers p.given

  pub few : length numbers ≤ length pcs
  few = let whole : length pcs ≡ length p.front + length p.back = ap length p.is ∙ length-append p.front p.back in let same = size in omega arith

  back_is : drop (length numbers) pcs ≡ p.back
  back_is = ap (drop (length numbers)) p.is ∙ drop_at p.front p.back (length numbers) size

  back_on : ordered_from leb 0 p.back ≡ true
  back_on = ordered-back p.front p.back 0 (ap (ordered_from leb 0) (sym p.is) ∙ sym (falls_first pcs) ∙ ok.steadily)

  abbrev start : Step
  start = first line deltas anchors ok.rising

  back-lines : lines_from deltas start p.back ≡ map (line_of instructions line deltas anchors) p.back
  back-lines = by deltas refl
    where
      by : (ds : Bytes) → deltas ≡ ds → lines_from ds start p.back ≡ map (line_of instructions line ds anchors) p.back
      by [] e = no_deltas instructions line anchors start p.back p.others
      by (d ∷ ds) e = sweep_lines line (d ∷ ds) anchors ok.rising p.back back_on d ds refl ∙ with_deltas instructions line d ds anchors p.back p.others

  pub all_lines : numbers ++ lines_from deltas start (drop (length numbers) pcs) ≡ map (line_of instructions line deltas anchors) pcs
  all_lines =
      ap (λ qs. numbers ++ lines_from deltas start qs) back_is
      ∙ ap₂ ◌++◌ (sym (front-lines instructions line deltas anchors p.front numbers p.given)) back-lines
      ∙ sym (map-append (line_of instructions line deltas anchors) p.front p.back)
      ∙ ap (map (line_of instructions line deltas anchors)) (sym p.is)

  pub all_reads : (end_of deltas start (drop (length numbers) pcs)).read ≡ deltas_read instructions line deltas anchors pcs
  all_reads =
      ap (λ qs. (end_of deltas start qs).read) back_is
      ∙ sweep_reads line deltas anchors ok.rising p.back back_on
      ∙ count_same (length deltas) _ _
      (λ i h.
      sym (ap (λ qs. walked_by_any (over instructions line deltas anchors) qs i) p.is
      ∙ front-none instructions line deltas anchors i p.front numbers p.back p.given
      ∙ back_walk instructions line deltas anchors i p.back p.others))

  pub all_writable : length deltas ≤ MOST → Writable deltas start (drop (length numbers) pcs)
  all_writable short =
      let low = all-low line anchors ok.small in
      rw back_is
      (writable line deltas anchors ok.rising short p.back
      (of-all (λ q. let under = base_low q (record { pc = 0; line = line }) anchors low.0 low.1 in omega arith) p.back)
      0 0 _ start (at_first line deltas anchors ok.rising) (omega arith) back_on (omega arith))
