-- The fast form gives the plain line: of the deltas of −128 that have an anchor only the last counts, and one pass over the anchors finds it.
--     Settled          what `reset` says of the anchors so far
--     settled          the pass over the anchors makes it so
--     fast             then the line is the sum behind it
-- Assumes nothing.
use mathlib.Core.Path.{◌≡◌, refl, sym, ◌∙◌, ap}
use mathlib.Core.Bool.{Bool, true, false, cond}
use mathlib.Core.List.{List, [], ◌∷◌, ◌++◌, append-nil, append_assoc}
use Prim.Native.Nat.{ℕ, zero, suc, ◌+◌, ◌≤◌, ◌<◌}
use native.Mathlib.Omega.{arith}
use borrow.Author.Tests.{ltb-true, ltb-false, eqb-true, eqb-false, ne_eqb, eq-eqb}
use lib.Dec.{eqb, ltb}
use lib.IntN.{ℤ, pos, ◌+ℤ◌}
use lib.ListN.{drop, get_or}
use mir.Syntax.{w8}
use mir.Val.{to_z}
use Rattle.format.specs.declared.entry.AbsLineInfo.{AbsLineInfo}
use Rattle.format.specs.Form.{Bytes}
use Rattle.line_anchors.specs.declared.Scan.{Scan}
use Rattle.line_lookup.specs.Lines.{line_at, stepped, walked}
use Rattle.line_anchors.specs.Inner.Scan.{reset_by, passed, scanned}
use Rattle.line_lookup.specs.Inner.Scan.{added, summed}

-- ## The first anchor at a pc
line_at-append : (j : ℕ) (xs ys : List AbsLineInfo) (z : ℤ) → line_at j (xs ++ ys) z ≡ line_at j xs (line_at j ys z)
line_at-append j [] ys z = refl
line_at-append j (x ∷ xs) ys z = ap (cond (eqb x.pc j) (pos x.line)) (line_at-append j xs ys z)

-- an anchor at another pc
elsewhere : (j : ℕ) (a : AbsLineInfo) (z : ℤ) → (a.pc ≡ j → ⊥) → line_at j (a ∷ []) z ≡ z
elsewhere j a z h = ap (λ b. cond b (pos a.line) z) (ne_eqb a.pc j h)

-- ## The deltas from a pc on
pub from-head : (k : ℕ) (ds : Bytes) {d : ℕ} {xs : Bytes} → drop k ds ≡ d ∷ xs → get_or ds k 0 ≡ d
from-head zero [] e = absurd (let z : ◌≡◌ {A = ℕ} 0 1 = cc in omega arith)
from-head zero (y ∷ ds) e = cc
from-head (suc k) [] e = absurd (let z : ◌≡◌ {A = ℕ} 0 1 = cc in omega arith)
from-head (suc k) (y ∷ ds) e = from-head k ds e

from_tail : (k : ℕ) (ds : Bytes) {d : ℕ} {xs : Bytes} → drop k ds ≡ d ∷ xs → drop (suc k) ds ≡ xs
from_tail zero [] e = absurd (let z : ◌≡◌ {A = ℕ} 0 1 = cc in omega arith)
from_tail zero (y ∷ ds) e = cc
from_tail (suc k) [] e = absurd (let z : ◌≡◌ {A = ℕ} 0 1 = cc in omega arith)
from_tail (suc k) (y ∷ ds) e = from_tail k ds e

pub from-none : (k i : ℕ) (ds : Bytes) → drop k ds ≡ [] → k ≤ i → get_or ds i 0 ≡ 0
from-none k i [] e h = refl
from-none zero i (y ∷ ds) e h = absurd (let z : ◌≡◌ {A = ℕ} 0 1 = cc in omega arith)
from-none (suc k) zero (y ∷ ds) e h = absurd (omega arith)
from-none (suc k) (suc i) (y ∷ ds) e h = from-none k i ds e (omega arith)

pub next-is : (k : ℕ) (ds : Bytes) {d : ℕ} {xs : Bytes} → drop k ds ≡ d ∷ xs → drop (k + 1) ds ≡ xs
next-is k ds e = let one : k + 1 ≡ suc k = omega arith in ap (λ n. drop n ds) one ∙ from_tail k ds e

module _ (ds : Bytes) where
  -- no delta of −128 from `reset` on has an anchor; the one just before it has, and the first gives the line
  pub record Settled (anchors : List AbsLineInfo) (r : AbsLineInfo) : Type 0 where
    pub later : (j : ℕ) → r.pc ≤ j → get_or ds j 0 ≡ 128 → (z : ℤ) → line_at j anchors z ≡ z
    pub minus_128 : (i : ℕ) → r.pc ≡ suc i → get_or ds i 0 ≡ 128
    pub line_is : (i : ℕ) → r.pc ≡ suc i → (z : ℤ) → line_at i anchors z ≡ pos r.line

  pub none_settled : Settled [] (record { pc = 0; line = 0 })
  none_settled = record { later = λ j h e z. refl; minus_128 = λ i e. absurd (omega arith); line_is = λ i e z. absurd (omega arith) }

  -- ## One anchor more
  module _ (anchors : List AbsLineInfo) (r a : AbsLineInfo) (so : Settled anchors r) where
    abbrev one_more : List AbsLineInfo
    one_more = anchors ++ a ∷ []

    unmoved : (j : ℕ) (z : ℤ) → (a.pc ≡ j → ⊥) → line_at j one_more z ≡ line_at j anchors z
    unmoved j z h = line_at-append j anchors (a ∷ []) z ∙ ap (line_at j anchors) (elsewhere j a z h)

    stays : ((j : ℕ) → r.pc ≤ j → get_or ds j 0 ≡ 128 → a.pc ≡ j → ⊥) → Settled one_more r
    stays other = record {
      later = λ j h e z. unmoved j z (other j h e) ∙ so.later j h e z;
      minus_128 = so.minus_128;
      line_is = λ i e z. line_at-append i anchors (a ∷ []) z ∙ so.line_is i e (line_at i (a ∷ []) z);
    }

    moves : get_or ds a.pc 0 ≡ 128 → r.pc ≤ a.pc → Settled one_more (record { pc = a.pc + 1; line = a.line })
    moves e h = record {
      later = λ j k f z. unmoved j z (λ p. omega arith) ∙ so.later j (omega arith) f z;
      minus_128 = λ i p. let same : i ≡ a.pc = omega arith in rw same e;
      line_is = λ i p z.
          let same : a.pc ≡ i = omega arith in
          line_at-append i anchors (a ∷ []) z
          ∙ ap (λ b. line_at i anchors (cond b (pos a.line) z)) (eq-eqb a.pc i same)
          ∙ so.later i (omega arith) (rw same at e) (pos a.line);
    }

    step : Settled one_more (reset_by ds r a)
    step = by (eqb (get_or ds a.pc 0) 128) refl
      where
        order : get_or ds a.pc 0 ≡ 128 → (u : Bool) → ltb a.pc r.pc ≡ u → Settled one_more (cond u r (record { pc = a.pc + 1; line = a.line }))
        order e true h = let less = ltb-true a.pc r.pc h in stays (λ j k f p. omega arith)
        order e false h = moves e (ltb-false a.pc r.pc h)

        by : (t : Bool) → eqb (get_or ds a.pc 0) 128 ≡ t → Settled one_more (cond t (cond (ltb a.pc r.pc) r (record { pc = a.pc + 1; line = a.line })) r)
        by true e = order (eqb-true (get_or ds a.pc 0) 128 e) (ltb a.pc r.pc) refl
        by false e = stays (λ j h f p. eqb-false (get_or ds a.pc 0) 128 e (rw p f))

  -- ## All anchors
  pub settled : (pc : ℕ) (z : Scan) (before anchors : List AbsLineInfo) → Settled before z.reset → Settled (before ++ anchors) (scanned ds pc z anchors).reset
  settled pc z before [] so = rw append-nil so
  settled pc z before (a ∷ anchors) so =
      rw (append_assoc before (a ∷ []) anchors) at (settled pc (passed ds pc z a) (before ++ a ∷ []) anchors (step before z.reset a so))

  -- ## The sum
  module _ (anchors : List AbsLineInfo) (r : AbsLineInfo) (so : Settled anchors r) where
    same_step : (k d : ℕ) (z : ℤ) → get_or ds k 0 ≡ d → r.pc ≤ k → stepped anchors k z d ≡ added z d
    same_step k d z e h = by (eqb d 128) refl
      where
        by : (t : Bool) → eqb d 128 ≡ t → cond t (line_at k anchors z) (z +ℤ to_z w8 d) ≡ cond t z (z +ℤ to_z w8 d)
        by true t = so.later k h (e ∙ eqb-true d 128 t) z
        by false t = refl

    -- behind the last that has an anchor
    behind : (xs : Bytes) (k : ℕ) (z : ℤ) → drop k ds ≡ xs → r.pc ≤ k → walked anchors k z xs ≡ summed z xs
    behind [] k z e h = refl
    behind (d ∷ xs) k z e h =
        ap (λ y. walked anchors (k + 1) y xs) (same_step k d z (from-head k ds e) h)
        ∙ behind xs (k + 1) (added z d) (next-is k ds e) (omega arith)

    -- up to it
    before : (i : ℕ) → r.pc ≡ suc i → (xs : Bytes) (k : ℕ) (z : ℤ) → drop k ds ≡ xs → k ≤ i → walked anchors k z xs ≡ walked anchors (i + 1) (pos r.line) (drop (i + 1) ds)
    before i p [] k z e h = absurd (omega (arith, from-none k i ds e h, so.minus_128 i p))
    before i p (d ∷ xs) k z e h = by (eqb k i) refl (λ less. before i p xs (k + 1) (stepped anchors k z d) (next-is k ds e) less)
      where
        less : (k i : ℕ) → k ≤ i → (k ≡ i → ⊥) → k + 1 ≤ i
        less k i h other = omega arith

        Whole : Type 0
        Whole = walked anchors (k + 1) (stepped anchors k z d) xs ≡ walked anchors (i + 1) (pos r.line) (drop (i + 1) ds)

        by : (t : Bool) → eqb k i ≡ t → (k + 1 ≤ i → Whole) → Whole
        by true t go =
            let same = eqb-true k i t in
            let is : d ≡ 128 = sym (from-head k ds e) ∙ ap (λ n. get_or ds n 0) same ∙ so.minus_128 i p in
            ap (λ b. walked anchors (k + 1) (cond b (line_at k anchors z) (z +ℤ to_z w8 d)) xs) (eq-eqb d 128 is)
            ∙ ap (λ y. walked anchors (k + 1) y xs) (ap (λ n. line_at n anchors z) same ∙ so.line_is i p z)
            ∙ ap (walked anchors (k + 1) (pos r.line)) (sym (next-is k ds e))
            ∙ ap (λ n. walked anchors (n + 1) (pos r.line) (drop (n + 1) ds)) same
        by false t go = go (less k i h (eqb-false k i t))

    pub fast : (base : AbsLineInfo) → let start = cond (ltb base.pc r.pc) r base in walked anchors base.pc (pos base.line) (drop base.pc ds) ≡ summed (pos start.line) (drop start.pc ds)
    fast base = by (ltb base.pc r.pc) refl
      where
        reached : (n : ℕ) → r.pc ≡ n → base.pc < n → walked anchors base.pc (pos base.line) (drop base.pc ds) ≡ summed (pos r.line) (drop r.pc ds)
        reached zero p h = absurd (omega arith)
        reached (suc i) p h =
            let same : i + 1 ≡ r.pc = omega arith in
            before i p (drop base.pc ds) base.pc (pos base.line) refl (omega arith)
            ∙ ap (λ n. walked anchors n (pos r.line) (drop n ds)) same
            ∙ behind (drop r.pc ds) r.pc (pos r.line) refl (omega arith)

        by : (t : Bool) → ltb base.pc r.pc ≡ t → let start = cond t r base in walked anchors base.pc (pos base.line) (drop base.pc ds) ≡ summed (pos start.line) (drop start.pc ds)
        by true t = reached r.pc refl (ltb-true base.pc r.pc t)
        by false t = behind (drop base.pc ds) base.pc (pos base.line) refl (ltb-false base.pc r.pc t)
