-- Where the anchors are as the compiler writes them, 01's line is ldebug.c's.
--     Compiled         the premises
--     same_line        the theorem
-- Assumes nothing.
use mathlib.Core.Path.{◌≡◌, refl, sym, ◌∙◌, ap, subst}
use mathlib.Core.Bool.{Bool, true, false, cond}
use mathlib.Core.List.{List, [], ◌∷◌}
use mathlib.Core.Option
use mathlib.Core.Option.{none, some, map}
use Prim.Native.Nat.{ℕ, zero, suc, ◌+◌, ◌-◌, ◌/◌, ◌≤◌, ◌<◌}
use native.Mathlib.Omega.{arith}
use borrow.Author.Tests.{eqb-true, leb-true, leb-false, le-leb, ltb-true, ltb-false, ne_eqb, eq-eqb, lt-ltb, le-ltb}
use lib.Dec.{eqb, leb, ltb}
use lib.IntN.{ℤ, pos, ◌+ℤ◌}
use lib.ListN.{length, take, drop, get_or, length-take, get_elem?}
use lib.Seq.{get_or-take}
use mir.Syntax.{w8}
use mir.Val.{to_z}
use Rattle.format.specs.declared.entry.AbsLineInfo.{AbsLineInfo}
use Rattle.format.specs.Form.{Bytes, All}
use Rattle.line_lookup.specs.Ldebug.{MAXIWTHABS, getbaseline, increments, lua_g_getfuncline}
use Rattle.line_lookup.specs.Lines.{base_of, line_at, walked, raised, by_deltas, line_of}
use Rattle.line_lookup.proofs.Fast.{from-head, from-none, next-is}
use Rattle.line_lookup.proofs.Rising.{RisingFrom, Rising, At, from_on, base_last, base_within, base_all, base_line, from_estimate, Numbered, numbered}
use Rattle.line_anchors.proofs.Tests.{picked, other, beyond, drop_beyond}

-- ## The sum
-- the deltas up to the pc
in_cut : (n j : ℕ) (ds : Bytes) → get_or (take n ds) j 0 ≡ 128 → (j < n) × (get_or ds j 0 ≡ 128)
in_cut n j ds e = by (ltb j n) refl
  where
    by : (t : Bool) → ltb j n ≡ t → (j < n) × (get_or ds j 0 ≡ 128)
    by true t = let h = ltb-true j n t in (h, sym (get_or-take n ds j 0 h) ∙ e)
    by false t =
        let h = ltb-false j n t in
        let short : length (take n ds) ≤ j = simp length-take (omega arith) in
        absurd (omega (arith, beyond (take n ds) j short))

-- without a delta of −128 the two sums are one
plain : (anchors : List AbsLineInfo) (cut xs : Bytes) (k : ℕ) (z : ℤ) → drop k cut ≡ xs → ((j : ℕ) → k ≤ j → get_or cut j 0 ≡ 128 → ⊥) → walked anchors k z xs ≡ increments z xs
plain anchors cut [] k z e never = refl
plain anchors cut (d ∷ xs) k z e never =
    ap (λ t. walked anchors (k + 1) (cond t (line_at k anchors z) (z +ℤ to_z w8 d)) xs) (ne_eqb d 128 (λ is. never k (omega arith) (from-head k cut e ∙ is)))
    ∙ plain anchors cut xs (k + 1) (z +ℤ to_z w8 d) (next-is k cut e) (λ j h. never j (omega arith))

-- behind a delta of −128 whose anchor has the line itself
at-anchor : (anchors : List AbsLineInfo) (cut : Bytes) (k : ℕ) (z : ℤ) → get_or cut k 0 ≡ 128 → line_at k anchors z ≡ z → walked anchors k z (drop k cut) ≡ walked anchors (k + 1) z (drop (k + 1) cut)
at-anchor anchors cut k z e same = by (drop k cut) refl
  where
    by : (xs : Bytes) → drop k cut ≡ xs → walked anchors k z xs ≡ walked anchors (k + 1) z (drop (k + 1) cut)
    by [] p = absurd (omega (arith, from-none k k cut p (omega arith)))
    by (d ∷ xs) p =
        ap (λ t. walked anchors (k + 1) (cond t (line_at k anchors z) (z +ℤ to_z w8 d)) xs) (eq-eqb d 128 (sym (from-head k cut p) ∙ e))
        ∙ ap (λ y. walked anchors (k + 1) y xs) same
        ∙ ap (walked anchors (k + 1) z) (sym (next-is k cut p))

-- ## As the compiler writes them
pub record Compiled (instructions : ℕ) (deltas : Bytes) (anchors : List AbsLineInfo) (pc : ℕ) : Type 0 where
  pub rising : Rising anchors
  -- the delta at each anchor is −128, and no other is
  pub marked : All (λ a. get_or deltas a.pc 0 ≡ 128) anchors
  pub only : (i : ℕ) → get_or deltas i 0 ≡ 128 → At i anchors
  -- each instruction has a delta, and there is one at the pc
  pub one_each : length deltas ≡ instructions
  pub there : pc < instructions
  -- what `getbaseline` asserts: the estimate, where it is not −1, is an anchor that is not above the pc
  pub estimate : (i : ℕ) (d : AbsLineInfo) → pc / MAXIWTHABS ≡ suc i → (i < length anchors) × ((get_or anchors i d).pc ≤ pc)

module _ (line_defined instructions : ℕ) (deltas : Bytes) (anchors : List AbsLineInfo) (pc : ℕ) (c : Compiled instructions deltas anchors pc) where
  abbrev cut : Bytes
  cut = take (pc + 1) deltas

  abbrev start : AbsLineInfo
  start = record { pc = 0; line = line_defined }

  abbrev ours : AbsLineInfo → ℤ
  ours base = walked anchors base.pc (pos base.line) (drop base.pc cut)

  abbrev theirs : AbsLineInfo → ℤ
  theirs base = increments (pos base.line) (drop base.pc cut)

  -- where no anchor stands from k up to the pc, no delta there is −128
  quiet : (k : ℕ) → ((j : ℕ) → k ≤ j → j ≤ pc → At j anchors → ⊥) → (j : ℕ) → k ≤ j → get_or cut j 0 ≡ 128 → ⊥
  quiet k free j h is = let p = in_cut (pc + 1) j deltas is in let within = p.0 in free j h (omega arith) (c.only j p.1)

  module _ (a : AbsLineInfo) (more : List AbsLineInfo) (e : anchors ≡ a ∷ more) where
    rising : RisingFrom 0 (a ∷ more)
    rising = rw e at c.rising

    -- before the first anchor
    before : pc < a.pc → ours start ≡ theirs start
    before h = plain anchors cut cut 0 (pos line_defined) refl (quiet 0 (λ j _ k m. omega (arith, from_on a.pc j (a ∷ more) (omega arith, rising.1) (rw e at m))))

    abbrev base : AbsLineInfo
    base = base_of pc a more

    -- from an anchor on
    behind : a.pc ≤ pc → ours base ≡ theirs (record { pc = base.pc + 1; line = base.line })
    behind h =
        let marked = rw e at c.marked in
        let here : get_or deltas base.pc 0 ≡ 128 = base_all pc (λ x. get_or deltas x.pc 0 ≡ 128) a more marked.0 marked.1 in
        let within = base_within pc a more h in
        let line : line_at base.pc anchors (pos base.line) ≡ pos base.line = ap (λ xs. line_at base.pc xs (pos base.line)) e ∙ base_line pc a more rising.1 (pos base.line) in
        at-anchor anchors cut base.pc (pos base.line) (get_or-take (pc + 1) deltas base.pc 0 (omega arith) ∙ here) line
        ∙ plain anchors cut (drop (base.pc + 1) cut) (base.pc + 1) (pos base.line) refl (quiet (base.pc + 1) (λ j l k m. omega (arith, base_last pc a more rising.1 j (rw e at m) k)))

    -- the estimate does not matter
    found : a.pc ≤ pc → (k : ℕ) → pc / MAXIWTHABS ≡ k → base_of pc (get_or (a ∷ more) (k - 1) a) (drop k (a ∷ more)) ≡ base
    found h zero is = ap (λ t. cond t base a) (le-leb a.pc pc h)
    found h (suc i) is =
        let asserted = rw e at (c.estimate i a is) in
        let size = asserted.0 in
        let same : suc i - 1 ≡ i = omega arith in
        ap (λ n. base_of pc (get_or (a ∷ more) n a) (drop i more)) same ∙ sym (from_estimate pc a i a more rising.1 (omega arith) asserted.1)

    both : ours (base_of pc start (a ∷ more)) ≡ theirs (getbaseline line_defined pc (a ∷ more))
    both = by (leb a.pc pc) refl
      where
        by : (t : Bool) → leb a.pc pc ≡ t → ours (cond t base start) ≡ theirs (getbaseline line_defined pc (a ∷ more))
        by true t =
            let h = leb-true a.pc pc t in
            behind h
            ∙ sym (ap (λ b. theirs (record { pc = b.pc + 1; line = b.line })) (found h (pc / MAXIWTHABS) refl))
            ∙ ap theirs (other start _ (le-ltb pc a.pc h))
        by false t = let h = leb-false a.pc pc t in before h ∙ ap theirs (picked start _ (lt-ltb pc a.pc h))

  by_base : (xs : List AbsLineInfo) → anchors ≡ xs → ours (base_of pc start xs) ≡ theirs (getbaseline line_defined pc xs)
  by_base [] e = plain anchors cut cut 0 (pos line_defined) refl (quiet 0 (λ j _ _ m. rw e at m))
  by_base (a ∷ more) e = both a more e

  -- ## As many anchors as instructions
  below_all : (xs : List AbsLineInfo) → All (λ a. get_or deltas a.pc 0 ≡ 128) xs → All (λ a. a.pc < instructions) xs
  below_all [] h = tt
  below_all (x ∷ xs) h = (inside (ltb x.pc instructions) refl, below_all xs h.1)
    where
      inside : (t : Bool) → ltb x.pc instructions ≡ t → x.pc < instructions
      inside true t = ltb-true x.pc instructions t
      inside false t = absurd (let out = ltb-false x.pc instructions t in let size = c.one_each in let is = h.0 in omega (arith, beyond deltas x.pc (omega arith)))

  module _ (full : length anchors ≡ instructions) where
    number : (z : ℤ) → Numbered (0 + pc) pc anchors z
    number z = let inside = c.there in numbered 0 instructions anchors c.rising (below_all anchors c.marked) (omega arith) pc (omega arith) z

    all_numbered : (xs : List AbsLineInfo) → anchors ≡ xs → map (λ (a : AbsLineInfo). a.line) (get_elem? anchors pc) ≡ some (raised (theirs (getbaseline line_defined pc xs)))
    all_numbered [] e = absurd (let size = ap length e in let inside = c.there in omega arith)
    all_numbered (a ∷ more) e =
        let b = base a more e in
        let x = number (pos b.line) in
        let zero-plus : 0 + pc ≡ pc = omega arith in
        let moved : At pc anchors = subst (λ n. At n anchors) zero-plus x.there in
        let there : At pc (a ∷ more) = subst (At pc) e moved in
        let up = (rising a more e).1 in
        let begun : a.pc ≤ pc = from_on a.pc pc (a ∷ more) (omega arith, up) there in
        let least = base_last pc a more up pc there (omega arith) in
        let most = base_within pc a more begun in
        let at-pc : b.pc ≡ pc = omega arith in
        let line : pos x.line ≡ pos b.line = sym x.first ∙ ap (λ n. line_at n anchors (pos b.line)) (zero-plus ∙ sym at-pc) ∙ ap (λ xs. line_at b.pc xs (pos b.line)) e ∙ base_line pc a more up (pos b.line) in
        let short : length cut ≤ b.pc + 1 = simp length-take (omega arith) in
        let sum : theirs (getbaseline line_defined pc (a ∷ more)) ≡ pos b.line =
        sym (both a more e)
        ∙ ap (λ t. ours (cond t b start)) (le-leb a.pc pc begun)
        ∙ behind a more e begun
        ∙ ap (increments (pos b.line)) (drop_beyond cut (b.pc + 1) short) in
        x.is ∙ ap (λ y. some (raised y)) (line ∙ sym sum)

  -- ## The theorem
  pub same_line : line_of instructions line_defined deltas anchors pc ≡ raised (lua_g_getfuncline line_defined deltas anchors pc)
  same_line = by deltas refl (eqb (length anchors) instructions) refl
    where
      by : (ds : Bytes) → deltas ≡ ds → (t : Bool) → eqb (length anchors) instructions ≡ t → line_of instructions line_defined ds anchors pc ≡ raised (lua_g_getfuncline line_defined ds anchors pc)
      by [] e t is = absurd (let size = ap length e in let one = c.one_each in let some = c.there in omega arith)
      by (d ∷ ds) e true is =
          ap (λ o. Option.get_or o (by_deltas (base_of pc start anchors) (d ∷ ds) anchors pc)) (sym (picked (map (λ (a : AbsLineInfo). a.line) (get_elem? anchors pc)) none is) ∙ all_numbered (eqb-true (length anchors) instructions is) anchors refl)
          ∙ ap (λ ds. raised (increments (pos (getbaseline line_defined pc anchors).line) (drop (getbaseline line_defined pc anchors).pc (take (pc + 1) ds)))) e
      by (d ∷ ds) e false is =
          ap (λ o. Option.get_or o (by_deltas (base_of pc start anchors) (d ∷ ds) anchors pc)) (sym (other (map (λ (a : AbsLineInfo). a.line) (get_elem? anchors pc)) none is))
          ∙ ap (λ ds. raised (walked anchors (base_of pc start anchors).pc (pos (base_of pc start anchors).line) (drop (base_of pc start anchors).pc (take (pc + 1) ds)))) (sym e)
          ∙ ap raised (by_base anchors refl)
          ∙ ap (λ ds. raised (increments (pos (getbaseline line_defined pc anchors).line) (drop (getbaseline line_defined pc anchors).pc (take (pc + 1) ds)))) e
