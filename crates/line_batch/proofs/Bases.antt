-- Anchors that rise strictly: the base of one pc and of a later one, and that no delta of −128 changes the line on the way from a base.
--     free             no anchor stands behind the base up to the pc
--     plain_walk       so the walk is the sum
--     base_from        from a base on, a later one is not before it
--     Took, takes      what taking anchors from the front gives
-- Assumes nothing.
use mathlib.Core.Path.{◌≡◌, refl, sym, ◌∙◌, ap}
use mathlib.Core.Bool.{Bool, true, false, cond}
use mathlib.Core.List.{List, [], ◌∷◌}
use mathlib.Core.Logic.{◌⊎◌, inl, inr, ⊎_elim}
use Prim.Native.Nat.{ℕ, ◌+◌, ◌≤◌, ◌<◌}
use native.Mathlib.Omega.{arith}
use borrow.Author.Tests.{leb-true, leb-false, le-leb, ne_eqb}
use lib.Dec.{eqb, leb}
use lib.IntN.{ℤ, pos, ◌+ℤ◌}
use lib.ListN.{length}
use mir.Syntax.{w8}
use mir.Val.{to_z}
use Rattle.format.specs.declared.entry.AbsLineInfo.{AbsLineInfo}
use Rattle.format.specs.Form.{Bytes}
use Rattle.line_lookup.specs.Lines.{base_of, line_at, stepped, walked}
use Rattle.line_lookup.specs.Inner.Scan.{added, summed}
use Rattle.line_lookup.proofs.Rising.{RisingFrom, Rising, At, from_on, base_last, base_within, base_line}
use Rattle.line_batch.specs.Inner.Walk.{Step, take_up, take_step}

-- ## No anchor at a pc
no_line : (j : ℕ) (xs : List AbsLineInfo) (z : ℤ) → (At j xs → ⊥) → line_at j xs z ≡ z
no_line j [] z h = refl
no_line j (a ∷ xs) z h =
    ap (λ t. cond t (pos a.line) (line_at j xs z)) (ne_eqb a.pc j (λ e. h (inl e))) ∙ no_line j xs z (λ m. h (inr m))

-- a delta where no anchor changes the line z
same_step : (anchors : List AbsLineInfo) (i d : ℕ) (z : ℤ) → line_at i anchors z ≡ z → stepped anchors i z d ≡ added z d
same_step anchors i d z h = by (eqb d 128)
  where
    by : (t : Bool) → cond t (line_at i anchors z) (z +ℤ to_z w8 d) ≡ cond t z (z +ℤ to_z w8 d)
    by true = h
    by false = refl

free_walk : (anchors : List AbsLineInfo) (xs : Bytes) (k : ℕ) (z : ℤ) → ((j : ℕ) → k ≤ j → j < k + length xs → At j anchors → ⊥) → walked anchors k z xs ≡ summed z xs
free_walk anchors [] k z free = refl
free_walk anchors (d ∷ xs) k z free =
    ap (λ y. walked anchors (k + 1) y xs) (same_step anchors k d z (no_line k anchors z (free k (omega arith) (omega arith))))
    ∙ free_walk anchors xs (k + 1) (added z d) (λ j h l. free j (omega arith) (omega arith))

-- ## The base among anchors that rise
module _ (anchors : List AbsLineInfo) (up : Rising anchors) (line_defined : ℕ) (pc : ℕ) where
  abbrev start : AbsLineInfo
  start = record { pc = 0; line = line_defined }

  abbrev base : AbsLineInfo
  base = base_of pc start anchors

  pub base_low : base.pc ≤ pc
  base_low = go anchors
    where
      go : (xs : List AbsLineInfo) → (base_of pc start xs).pc ≤ pc
      go [] = omega arith
      go (a ∷ more) = by (leb a.pc pc) refl
        where
          by : (t : Bool) → leb a.pc pc ≡ t → (cond t (base_of pc a more) start).pc ≤ pc
          by true t = base_within pc a more (leb-true a.pc pc t)
          by false t = omega arith

  pub free : (j : ℕ) → base.pc < j → j ≤ pc → At j anchors → ⊥
  free j h k m = go anchors up m h
    where
      go : (xs : List AbsLineInfo) → Rising xs → At j xs → (base_of pc start xs).pc < j → ⊥
      go [] r m h = m
      go (a ∷ more) r m h = by (leb a.pc pc) refl h
        where
          by : (t : Bool) → leb a.pc pc ≡ t → (cond t (base_of pc a more) start).pc < j → ⊥
          by true t h = omega (arith, base_last pc a more r.1 j m k)
          by false t h = let above = leb-false a.pc pc t in omega (arith, from_on a.pc j (a ∷ more) (omega arith, r.1) m)

  -- the line of an anchor at the base is the base's
  pub at_base : line_at base.pc anchors (pos base.line) ≡ pos base.line
  at_base = go anchors up
    where
      go : (xs : List AbsLineInfo) → Rising xs → line_at (base_of pc start xs).pc xs (pos (base_of pc start xs).line) ≡ pos (base_of pc start xs).line
      go [] r = refl
      go (a ∷ more) r = by (leb a.pc pc) refl
        where
          by : (t : Bool) → leb a.pc pc ≡ t → line_at (cond t (base_of pc a more) start).pc (a ∷ more) (pos (cond t (base_of pc a more) start).line) ≡ pos (cond t (base_of pc a more) start).line
          by true t = base_line pc a more r.1 (pos (base_of pc a more).line)
          by false t =
              let above = leb-false a.pc pc t in
              no_line 0 (a ∷ more) (pos line_defined) (λ m. omega (arith, from_on a.pc 0 (a ∷ more) (omega arith, r.1) m))

  -- from the base up to the pc the walk is the sum
  pub plain_walk : (xs : Bytes) → base.pc + length xs ≤ pc + 1 → walked anchors base.pc (pos base.line) xs ≡ summed (pos base.line) xs
  plain_walk [] h = refl
  plain_walk (d ∷ xs) h =
      ap (λ y. walked anchors (base.pc + 1) y xs) (same_step anchors base.pc d (pos base.line) at_base)
      ∙ free_walk anchors xs (base.pc + 1) (added (pos base.line) d) (λ j k l. free j (omega arith) (omega arith))

-- from a base on
pub base_from : (q m : ℕ) (b : AbsLineInfo) (left : List AbsLineInfo) → RisingFrom m left → b.pc ≤ m → b.pc ≤ (base_of q b left).pc
base_from q m b [] r h = omega arith
base_from q m b (a ∷ more) r h = by (leb a.pc q) (base_from q (a.pc + 1) a more r.1 (omega arith))
  where
    by : (t : Bool) → a.pc ≤ (base_of q a more).pc → b.pc ≤ (cond t (base_of q a more) b).pc
    by true k = let over = r.0 in omega arith
    by false k = omega arith

-- ## Taking anchors
-- none is taken, or the base is the last of them; m is the least pc of those that are left, b the base so far, c the base then
abbrev pub Which : ℕ → AbsLineInfo → AbsLineInfo → Step → Step → Type 0
Which m b c old new =
    ((c ≡ b) × (new.at ≡ old.at) × (new.from ≡ old.from) × (new.sum ≡ old.sum))
    ⊎ ((m ≤ c.pc) × (new.at ≡ c.pc) × (new.from ≡ c.line) × (new.sum ≡ pos 0))

pub record Took (q m : ℕ) (b : AbsLineInfo) (old new : Step) : Type 0 where
  pub read_is : new.read ≡ old.read
  pub later : (q' : ℕ) → q ≤ q' → base_of q' b old.left ≡ base_of q' (base_of q b old.left) new.left
  pub rising : RisingFrom (q + 1) new.left
  pub which : Which m b (base_of q b old.left) old new

abbrev standing : List AbsLineInfo → ℕ → ℕ → ℤ → ℕ → Step
standing left at from sum read = record { left = left; at = at; from = from; sum = sum; read = read }

takes_up : (q m : ℕ) (b : AbsLineInfo) (left : List AbsLineInfo) (at from : ℕ) (sum : ℤ) (read : ℕ) → RisingFrom m left → Took q m b (standing left at from sum read) (take_up q left at from sum read)
takes_up q m b [] at from sum read r = record { read_is = refl; later = λ q' h. refl; rising = tt; which = inl (refl, refl, refl, refl) }
takes_up q m b (a ∷ more) at from sum read r = by (leb a.pc q) refl (takes_up q (a.pc + 1) a more a.pc a.line (pos 0) read r.1)
  where
    -- one is taken: it, or one behind it, is the base
    last : (new : Step) → Which (a.pc + 1) a (base_of q a more) (standing more a.pc a.line (pos 0) read) new → (m ≤ (base_of q a more).pc) × (new.at ≡ (base_of q a more).pc) × (new.from ≡ (base_of q a more).line) × (new.sum ≡ pos 0)
    last new w =
        let first = r.0 in
        ⊎_elim
        (λ (s : (base_of q a more ≡ a) × (new.at ≡ a.pc) × (new.from ≡ a.line) × (new.sum ≡ pos 0)). rw s.0 (first, s.1, s.2, s.3))
        (λ (s : (a.pc + 1 ≤ (base_of q a more).pc) × (new.at ≡ (base_of q a more).pc) × (new.from ≡ (base_of q a more).line) × (new.sum ≡ pos 0)). let over = s.0 in (omega arith, s.1, s.2, s.3))
        w

    by : (t : Bool) → leb a.pc q ≡ t → Took q (a.pc + 1) a (standing more a.pc a.line (pos 0) read) (take_up q more a.pc a.line (pos 0) read)
        → Took q m b (standing (a ∷ more) at from sum read) (cond t (take_up q more a.pc a.line (pos 0) read) (standing (a ∷ more) at from sum read))
    by true t go =
        let e : base_of q b (a ∷ more) ≡ base_of q a more = ap (λ t. cond t (base_of q a more) b) t in
        let reached = leb-true a.pc q t in
        record {
          read_is = go.read_is;
          later = λ q' h. ap (λ t. cond t (base_of q' a more) b) (le-leb a.pc q' (omega arith)) ∙ go.later q' h ∙ ap (λ c. base_of q' c (take_up q more a.pc a.line (pos 0) read).left) (sym e);
          rising = go.rising;
          which = inr (rw e (last (take_up q more a.pc a.line (pos 0) read) go.which));
        }
    by false t go =
        let e : base_of q b (a ∷ more) ≡ b = ap (λ t. cond t (base_of q a more) b) t in
        let above = leb-false a.pc q t in
        record {
          read_is = refl;
          later = λ q' h. ap (λ c. base_of q' c (a ∷ more)) (sym e);
          rising = (omega arith, r.1);
          which = inl (e, refl, refl, refl);
        }

pub takes : (q m : ℕ) (b : AbsLineInfo) (z : Step) → RisingFrom m z.left → Took q m b z (take_step q z)
takes q m b z r = takes_up q m b z.left z.at z.from z.sum z.read r
