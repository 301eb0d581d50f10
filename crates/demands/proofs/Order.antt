-- 'In byte order', said of a reader, and proved of the reader of a chunk and of what every call begins with.
--     Decided L r at s p   the bytes s, from the place `at` on, are refused with p for a cause (Causes.antt) that ends where its `front` ends: the front alone is refused so, whatever stands behind it unless bytes are missing (1, 2),
--                          by a refusal of a file (1 to 20; `DecidedBy stricter`: 31 to 33 besides) whose place lies in the front or is its end
--     InByteOrder L r      so it is with each refusal of a file
--     decided              from the two laws (InOrder.antt, Early.antt)
--     in_byte_order        the reader of a chunk
--     decided_early        the same of `read`, with which every call on a chunk begins: 21 and 22 first
--     decided_by, places_by    from a reader to what begins with 21 and 22 and goes on with it; the stricter reading's: StrictOrder.antt
-- Readers that are not in byte order: Trap.antt, Backwards.antt.
-- Assumes nothing.
use mathlib.Core.Path.{◌≡◌, refl, sym, ◌∙◌, ap}
use mathlib.Core.Bool.{Bool, true, false, cond}
use mathlib.Core.List.{[], ◌++◌}
use Prim.Native.Nat.{ℕ, ◌+◌, ◌≤◌, ◌<◌}
use native.Mathlib.Omega.{arith}
use native.Mathlib.Nat.{zero-add}
use lib.Dec.{leb}
use lib.ListN.{length, length-append}
use borrow.Author.Tests.{leb-true, le-leb}
use Rattle.format.specs.declared.limits.ResourceLimits.{ResourceLimits}
use Rattle.format.specs.declared.refusal.Refusal.{Refusal}
use Rattle.format.specs.declared.refusal.Refusal.TheVariants.{LimitAboveCeiling, InputBytes}
use Rattle.format.specs.Refusals.{reported}
use Rattle.format.specs.Form.{Bytes}
use Rattle.format.specs.Limits.{within_ceilings}
use Rattle.format.specs.GrammarChunk.{Loaded}
use Rattle.format.specs.Read.{Read, ok, refused, Reader}
use Rattle.format.specs.ReadChunk.{Outcome, refusal, outcome, main, read}
use Rattle.demands.proofs.InOrder.{Inside, inside-more, ByFile, StillRefused, Steady, steady_main}
use Rattle.read_chunk.proofs.Summaries.{input_ceiling}
use Rattle.demands.proofs.Causes.{Which, ordinary, cause_by, Ends}
use Rattle.demands.proofs.Early.{Early, early_main}

pub record DecidedBy {A : Type 0} (of : Which) (L : ResourceLimits) (r : Reader A) (at : ℕ) (s : Bytes) (p : Refusal) : Type 0 where
  pub front : Bytes
  pub rest : Bytes
  pub whole : s ≡ front ++ rest
  pub ends : Ends (cause_by of L p) at front
  pub by_file : ByFile of (at + length front) p
  pub already : r at front ≡ refused p
  pub whatever : 2 < (reported p).number → (t : Bytes) → r at (front ++ t) ≡ refused p

abbrev pub Decided : {A : Type 0} → ResourceLimits → Reader A → ℕ → Bytes → Refusal → Type 0
Decided L r at s p = DecidedBy ordinary L r at s p

-- from the two laws
pub decided : {A : Type 0} {of : Which} (L : ResourceLimits) (r : Reader A) → Steady of 0 r → Early of L r → (at : ℕ) (s : Bytes) (p : Refusal) → r at s ≡ refused p → DecidedBy of L r at s p
decided {of} L r steady early at s p e = let c = early.cut at s p e in record {
  front = c.front;
  rest = c.rest;
  whole = c.whole;
  ends = c.ends;
  by_file = (behind c.front [] c.same).by_file;
  already = c.same;
  whatever = λ h t. (behind c.front t c.same).stays h;
}
  where
    behind : (front t : Bytes) → r at front ≡ refused p → StillRefused of (at + length front) p (r at (front ++ t))
    behind front t e = let all = steady.more at front t (omega arith) in rw e at all

-- a whole file
abbrev pub InByteOrder : {A : Type 0} → ResourceLimits → Reader A → Type 0
InByteOrder L r = (s : Bytes) (p : Refusal) → r 0 s ≡ refused p → Decided L r 0 s p

pub in_byte_order : (L : ResourceLimits) → InByteOrder L (main L)
in_byte_order L s p e = decided L (main L) (steady_main L) early_main 0 s p e

-- ## What the calls begin with
-- a reading that is begun with limits and bytes
pub record DecidedEarlyBy (of : Which) (reads : ResourceLimits → Bytes → Outcome) (L : ResourceLimits) (s : Bytes) (p : Refusal) : Type 0 where
  pub front : Bytes
  pub rest : Bytes
  pub whole : s ≡ front ++ rest
  pub ends : Ends (cause_by of L p) 0 front
  pub by_file : ByFile of (length front) p
  pub already : reads L front ≡ refusal p
  pub whatever : 2 < (reported p).number → (t : Bytes) → length (front ++ t) ≤ L.max_input_bytes → reads L (front ++ t) ≡ refusal p

abbrev pub DecidedEarly : ResourceLimits → Bytes → Refusal → Type 0
DecidedEarly L s p = DecidedEarlyBy ordinary read L s p

pub by_refusal : (L : ResourceLimits) (p : Refusal) (o : Read Loaded) → outcome L o ≡ refusal p → o ≡ refused p
by_refusal L p (ok m to rest) e = absurd (let z : ◌≡◌ {A = ℕ} 0 1 = cc in omega arith)
by_refusal L p (refused p') e = let same : p' ≡ p = cc in ap refused same

-- it is what its reader gives of a file that is not too long, so the refusals of the one are those of the other
pub decided_by : {of : Which} (L : ResourceLimits) (reads : ResourceLimits → Bytes → Outcome) (r : Reader Loaded) → ((s : Bytes) → length s ≤ L.max_input_bytes → reads L s ≡ outcome L (r 0 s))
    → ((s : Bytes) (p : Refusal) → r 0 s ≡ refused p → DecidedBy of L r 0 s p) → (s : Bytes) (p : Refusal) → length s ≤ L.max_input_bytes → reads L s ≡ refusal p → DecidedEarlyBy of reads L s p
decided_by L reads r by ordered s p short e =
    let d = ordered s p (by_refusal L p (r 0 s) (sym (by s short) ∙ e)) in
    let less : length d.front ≤ L.max_input_bytes = omega (arith, ap length d.whole, length-append d.front d.rest) in
    record {
      front = d.front;
      rest = d.rest;
      whole = d.whole;
      ends = d.ends;
      by_file = rw zero-add at d.by_file;
      already = by d.front less ∙ ap (outcome L) d.already;
      whatever = λ h t fits. by (d.front ++ t) fits ∙ ap (outcome L) (d.whatever h t);
    }

-- a refusal's place lies in the file, or is its end; and then that is within its ceiling
pub places_by : {of : Which} (L : ResourceLimits) (r : Reader Loaded) (s : Bytes) → ((p : Refusal) → r 0 s ≡ refused p → DecidedBy of L r 0 s p)
    → (q : Refusal) → cond (within_ceilings L) (cond (leb (length s) L.max_input_bytes) (outcome L (r 0 s)) (refusal InputBytes)) (refusal LimitAboveCeiling) ≡ refusal q
    → Inside (length s) (reported q).place × Inside 16777216 (reported q).place
places_by L r s ordered q = go (within_ceilings L) refl (leb (length s) L.max_input_bytes) refl (r 0 s) refl
  where
    go : (within : Bool) → within_ceilings L ≡ within → (short : Bool) → leb (length s) L.max_input_bytes ≡ short → (m : Read Loaded) → r 0 s ≡ m
        → cond within (cond short (outcome L m) (refusal InputBytes)) (refusal LimitAboveCeiling) ≡ refusal q → Inside (length s) (reported q).place × Inside 16777216 (reported q).place
    go true f true g (ok m to rest) k e = absurd (let z : ◌≡◌ {A = ℕ} 0 1 = cc in omega arith)
    go true f true g (refused p) k e =
        let same : p ≡ q = cc in
        let d = ordered p k in
        let fits : length d.front ≤ length s = omega (arith, ap length d.whole, length-append d.front d.rest) in
        let there : Inside (length d.front) (reported p).place = rw zero-add at d.by_file.place in
        let here = inside-more fits (reported p).place there in
        let few : length s ≤ 16777216 = omega (arith, leb-true (length s) L.max_input_bytes g, input_ceiling L f) in
        rw (← same) (here, inside-more few (reported p).place here)
    go true f false g m k e = let same : InputBytes ≡ q = cc in rw (← same) (tt, tt)
    go false f short g m k e = let same : LimitAboveCeiling ≡ q = cc in rw (← same) (tt, tt)

-- neither 21 nor 22
module _ (L : ResourceLimits) (within : within_ceilings L ≡ true) where
  pub by_main : (s : Bytes) → length s ≤ L.max_input_bytes → read L s ≡ outcome L (main L 0 s)
  unfolding read
  by_main s short = rw (within, le-leb (length s) L.max_input_bytes short)

  pub decided_early : (s : Bytes) (p : Refusal) → length s ≤ L.max_input_bytes → read L s ≡ refusal p → DecidedEarly L s p
  decided_early = decided_by L read (main L) by_main (in_byte_order L)
