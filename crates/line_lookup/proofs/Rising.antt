-- Anchors whose pcs rise strictly.
--     RisingFrom n     .. from n on
--     At               an anchor stands at a pc
--     base-..          the base of rule 3 among them
--     from_estimate    that base, from an anchor that is not above the pc
--     numbered         as many anchors as there is room for: each has its number for pc
-- Assumes nothing.
use mathlib.Core.Path.{◌≡◌, refl, ◌∙◌, ap}
use mathlib.Core.Bool.{Bool, true, false, cond}
use mathlib.Core.List.{List, [], ◌∷◌}
use mathlib.Core.Logic.{◌⊎◌, inl, inr, ⊎_elim}
use mathlib.Core.Option.{some, map}
use Prim.Native.Nat.{ℕ, zero, suc, ◌+◌, ◌≤◌, ◌<◌}
use native.Mathlib.Omega.{arith}
use borrow.Author.Tests.{leb-true, leb-false, le-leb, ne_eqb, eq-eqb}
use lib.Dec.{leb}
use lib.IntN.{ℤ, pos}
use lib.ListN.{length, drop, get_or, get_elem?}
use Rattle.format.specs.Form.{All}
use Rattle.format.specs.declared.entry.AbsLineInfo.{AbsLineInfo}
use Rattle.line_lookup.specs.Lines.{base_of, line_at}
use Rattle.line_lookup.proofs.Scans.{pick_both}

-- from n on
abbrev pub RisingFrom : ℕ → List AbsLineInfo → Type 0
RisingFrom n [] = Unit {0}
RisingFrom n (a ∷ more) = (n ≤ a.pc) × RisingFrom (a.pc + 1) more

abbrev pub Rising : List AbsLineInfo → Type 0
Rising anchors = RisingFrom 0 anchors

abbrev pub At : ℕ → List AbsLineInfo → Type 0
At i [] = ⊥
At i (a ∷ more) = (a.pc ≡ i) ⊎ At i more

-- ## Anchors that rise
pub from_on : (n i : ℕ) (anchors : List AbsLineInfo) → RisingFrom n anchors → At i anchors → n ≤ i
from_on n i [] r m = absurd m
from_on n i (a ∷ more) r m = let h = r.0 in ⊎_elim (λ (e : a.pc ≡ i). omega arith) (λ (k : At i more). omega (arith, from_on (a.pc + 1) i more r.1 k)) m

-- the base: the last anchor that is not above the pc
module _ (pc : ℕ) where
  -- no anchor stands behind it up to the pc
  pub base_last : (a : AbsLineInfo) (more : List AbsLineInfo) → RisingFrom (a.pc + 1) more → (j : ℕ) → At j (a ∷ more) → j ≤ pc → j ≤ (base_of pc a more).pc
  base_last a [] r j m h = ⊎_elim (λ (e : a.pc ≡ j). omega arith) (λ (n : ⊥). absurd n) m
  base_last a (x ∷ more) r j m h = by (leb x.pc pc) refl (base_last x more r.1)
    where
      by : (t : Bool) → leb x.pc pc ≡ t → ((j : ℕ) → At j (x ∷ more) → j ≤ pc → j ≤ (base_of pc x more).pc) → j ≤ (cond t (base_of pc x more) a).pc
      by true t go =
          let here = leb-true x.pc pc t in
          let over = r.0 in
          ⊎_elim (λ (e : a.pc ≡ j). omega (arith, go x.pc (inl refl) here)) (λ (k : At j (x ∷ more)). go j k h) m
      by false t go =
          let above = leb-false x.pc pc t in
          ⊎_elim (λ (e : a.pc ≡ j). omega arith) (λ (k : At j (x ∷ more)). absurd (omega (arith, from_on x.pc j (x ∷ more) (omega arith, r.1) k))) m

  pub base_within : (a : AbsLineInfo) (more : List AbsLineInfo) → a.pc ≤ pc → (base_of pc a more).pc ≤ pc
  base_within a [] h = h
  base_within a (x ∷ more) h = by (leb x.pc pc) refl (base_within x more)
    where
      by : (t : Bool) → leb x.pc pc ≡ t → (x.pc ≤ pc → (base_of pc x more).pc ≤ pc) → (cond t (base_of pc x more) a).pc ≤ pc
      by true t go = go (leb-true x.pc pc t)
      by false t go = h

  pub base_all : (P : AbsLineInfo → Type 0) (a : AbsLineInfo) (more : List AbsLineInfo) → P a → All P more → P (base_of pc a more)
  base_all P a [] h all = h
  base_all P a (x ∷ more) h all = pick_both P (leb x.pc pc) (base_all P x more all.0 all.1) h

  -- it is the first anchor at its pc
  pub base_line : (a : AbsLineInfo) (more : List AbsLineInfo) → RisingFrom (a.pc + 1) more → (z : ℤ) → line_at (base_of pc a more).pc (a ∷ more) z ≡ pos (base_of pc a more).line
  base_line a [] r z = ap (λ t. cond t (pos a.line) z) (eq-eqb a.pc a.pc refl)
  base_line a (x ∷ more) r z = by (leb x.pc pc) refl (base_line x more r.1 z)
    where
      by : (t : Bool) → leb x.pc pc ≡ t → line_at (base_of pc x more).pc (x ∷ more) z ≡ pos (base_of pc x more).line
          → line_at (cond t (base_of pc x more) a).pc (a ∷ x ∷ more) z ≡ pos (cond t (base_of pc x more) a).line
      by true t go =
          let over = r.0 in
          let b = (base_of pc x more).pc in
          let reached : x.pc ≤ b = base_last x more r.1 x.pc (inl refl) (leb-true x.pc pc t) in
          ap (λ u. cond u (pos a.line) (line_at b (x ∷ more) z)) (ne_eqb a.pc b (λ e. omega arith)) ∙ go
      by false t go = ap (λ u. cond u (pos a.line) (line_at a.pc (x ∷ more) z)) (eq-eqb a.pc a.pc refl)

  -- starting at an anchor that is not above the pc finds the same base
  pub from_estimate : (d : AbsLineInfo) (k : ℕ) (a : AbsLineInfo) (more : List AbsLineInfo) → RisingFrom (a.pc + 1) more → k ≤ length more → (get_or (a ∷ more) k d).pc ≤ pc
      → base_of pc a more ≡ base_of pc (get_or (a ∷ more) k d) (drop k more)
  from_estimate d zero a more r h low = refl
  from_estimate d (suc k) a [] r h low = absurd (omega arith)
  from_estimate d (suc k) a (x ∷ more) r h low =
      ap (λ t. cond t (base_of pc x more) a) (le-leb x.pc pc (omega (arith, head-low k x more r.1 (omega arith)))) ∙ from_estimate d k x more r.1 (omega arith) low
    where
      head-low : (k : ℕ) (x : AbsLineInfo) (more : List AbsLineInfo) → RisingFrom (x.pc + 1) more → k ≤ length more → x.pc ≤ (get_or (x ∷ more) k d).pc
      head-low zero x more r h = omega arith
      head-low (suc k) x [] r h = absurd (omega arith)
      head-low (suc k) x (y ∷ more) r h = let over = r.0 in omega (arith, head-low k y more r.1 (omega arith))

-- ## Anchors by their numbers
-- below `end` there is room for these anchors
room : (n end : ℕ) (anchors : List AbsLineInfo) → RisingFrom n anchors → All (λ a. a.pc < end) anchors → n ≤ end → n + length anchors ≤ end
room n end [] r below h = omega arith
room n end (a ∷ more) r below h = let from = r.0 in let this = below.0 in omega (arith, room (a.pc + 1) end more r.1 below.1 (omega arith))

-- the anchor of a number: its line, and that it is the first at that pc
pub record Numbered (pc i : ℕ) (anchors : List AbsLineInfo) (z : ℤ) : Type 0 where
  pub line : ℕ
  pub is : map (λ (a : AbsLineInfo). a.line) (get_elem? anchors i) ≡ some line
  pub first : line_at pc anchors z ≡ pos line
  pub there : At pc anchors

-- and no room is left
pub numbered : (n end : ℕ) (anchors : List AbsLineInfo) → RisingFrom n anchors → All (λ a. a.pc < end) anchors → n + length anchors ≡ end → (i : ℕ) → i < length anchors → (z : ℤ) → Numbered (n + i) i anchors z
numbered n end [] r below full i h z = absurd (omega arith)
numbered n end (a ∷ more) r below full zero h z =
    let from = r.0 in
    let this = below.0 in
    let is : a.pc ≡ n + 0 = omega (arith, room (a.pc + 1) end more r.1 below.1 (omega arith)) in
    record { line = a.line; is = refl; first = ap (λ t. cond t (pos a.line) (line_at (n + 0) more z)) (eq-eqb a.pc (n + 0) is); there = inl is }
numbered n end (a ∷ more) r below full (suc i) h z =
    let from = r.0 in
    let this = below.0 in
    let left = room (a.pc + 1) end more r.1 below.1 (omega arith) in
    let rest = numbered (a.pc + 1) end more r.1 below.1 (omega arith) i (omega arith) z in
    let same : a.pc + 1 + i ≡ n + suc i = omega arith in
    record {
      line = rest.line;
      is = rest.is;
      first = ap (λ t. cond t (pos a.line) (line_at (n + suc i) more z)) (ne_eqb a.pc (n + suc i) (λ e. omega arith)) ∙ rw same at rest.first;
      there = inr (rw same at rest.there);
    }
