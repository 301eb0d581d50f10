-- What a refusal names, of what every call on a chunk begins with: `read` (Demand1.antt: each call's refusals below
-- 21 are its), and `strict_read`. The laws of the readers: Blame.antt, Fault.antt, Mends.antt, and for the
-- stricter reading StrictBlame.antt, StrictFault.antt, StrictMends.antt.
--     MildOutcome o    read with no trailing bytes, or refused for no fault of the file (Fault.antt, `NoFault`)
--     Named reads      the three laws of a reading that is begun with limits and bytes:
--         stays        under limits that are as high it refuses alike, as long as the limit that the number names, if
--                      it names one (13 to 20), is the same
--         cured        what is refused with 13 to 20 has, for any limits as high, a front that is refused so already
--                      and that under these is mild
--         mended       what is refused with 4 to 12 (31 to 33) is refused for the bytes that begin at its place: with
--                      the right ones there (Mends.antt, `right`) the file up to their end is mild
--     read_named, strict_named     both readings are so
-- Limits are here within their ceilings; the laws of the readers have no ceilings, and so say more of counts that are
-- above these. What all of them leave open is told in docs/PROOF.md, 'Outside the proof'.
-- Assumes nothing.
use mathlib.Core.Path.{◌≡◌, sym, ◌∙◌, ap, subst}
use mathlib.Core.Bool.{true}
use mathlib.Core.List.{[], ◌++◌}
use Prim.Native.Nat.{◌≤◌}
use native.Mathlib.Omega.{arith}
use native.Mathlib.Nat.{zero-add}
use lib.ListN.{length, length-append}
use Rattle.format.specs.declared.limits.ResourceLimits.{ResourceLimits}
use Rattle.format.specs.declared.refusal.Refusal.{Refusal}
use Rattle.format.specs.Form.{Bytes}
use Rattle.format.specs.Limits.{within_ceilings}
use Rattle.format.specs.Refusals.{reported}
use Rattle.format.specs.GrammarChunk.{Loaded}
use Rattle.format.specs.Read.{Read, ok, refused, Reader}
use Rattle.format.specs.ReadChunk.{Outcome, shown, refusal, outcome, main, read}
use Rattle.format_strict.specs.ReadStrict.{strict_main, strict_read}
use Rattle.demands.proofs.Order.{by_refusal, by_main}
use Rattle.demands.proofs.StrictOrder.{by_strict_main}
use Rattle.demands.proofs.Blame.{Raised, SameNamed, Stays, blames}
use Rattle.demands.proofs.Fault.{limited, faulty, NoFault, Mild, Cures, limits_only}
use Rattle.demands.proofs.Mends.{right, Begins, Mends, mends}
use Rattle.demands.proofs.StrictBlame.{strict_blames}
use Rattle.demands.proofs.StrictFault.{strict_limits_only}
use Rattle.demands.proofs.StrictMends.{strict_mends}

abbrev pub MildOutcome : Outcome → Type 0
MildOutcome (shown r) = r.trailing ≡ []
MildOutcome (refusal p) = NoFault p

-- limits within their ceilings, and a file that is not longer than they allow: so neither 21 nor 22
pub record Allows (L : ResourceLimits) (s : Bytes) : Type 0 where
  pub ceilings : within_ceilings L ≡ true
  pub input : length s ≤ L.max_input_bytes

pub record Cured (reads : ResourceLimits → Bytes → Outcome) (L M : ResourceLimits) (s : Bytes) (p : Refusal) : Type 0 where
  pub front : Bytes
  pub rest : Bytes
  pub whole : s ≡ front ++ rest
  pub same : reads L front ≡ refusal p
  pub mild : MildOutcome (reads M front)

pub record Mended (reads : ResourceLimits → Bytes → Outcome) (L : ResourceLimits) (s : Bytes) (p : Refusal) : Type 0 where
  pub before : Bytes
  pub wrong : Bytes
  pub rest : Bytes
  pub whole : s ≡ before ++ (wrong ++ rest)
  pub same : reads L (before ++ wrong) ≡ refusal p
  pub begins : Begins (reported p).place (length before)
  pub mild : Allows L (before ++ right (reported p).number)
      → MildOutcome (reads L (before ++ right (reported p).number))

pub record Named (reads : ResourceLimits → Bytes → Outcome) : Type 0 where
  pub stays : (L M : ResourceLimits) → Raised L M → (s : Bytes) → Allows L s → Allows M s → (p : Refusal)
      → reads L s ≡ refusal p → SameNamed L M p → reads M s ≡ refusal p
  pub cured : (L M : ResourceLimits) → Raised L M → (s : Bytes) → Allows L s → Allows M s → (p : Refusal)
      → reads L s ≡ refusal p → limited p ≡ true → Cured reads L M s p
  pub mended : (L : ResourceLimits) (s : Bytes) → Allows L s → (p : Refusal) → reads L s ≡ refusal p → faulty p ≡ true
      → Mended reads L s p

-- ## From a reader to what begins with 21 and 22 and goes on with it
mild_by : (L : ResourceLimits) (o : Read Loaded) → Mild o → MildOutcome (outcome L o)
mild_by L (ok m to rest) e = e
mild_by L (refused p) h = h

shorter : (L : ResourceLimits) (s front rest : Bytes) → s ≡ front ++ rest → Allows L s → Allows L front
shorter L s front rest whole a = record { ceilings = a.ceilings; input = omega (arith, a.input, ap length whole, length-append front rest) }

module _ (reads : ResourceLimits → Bytes → Outcome) (main : ResourceLimits → Reader Loaded) (by : (L : ResourceLimits) (s : Bytes) → Allows L s → reads L s ≡ outcome L (main L 0 s)) where
  named_by : ((L M : ResourceLimits) → Raised L M → Stays L M (main L) (main M))
      → ((L M : ResourceLimits) → Raised L M → Cures (main L) (main M)) → ((L : ResourceLimits) → Mends (main L))
      → Named reads
  named_by stay cure mend = record {
    stays =
        λ L M wide s a b p e named. by M s b ∙ ap (outcome M) ((stay L M wide).refuses 0 s p (by_refusal L p (main L 0 s) (sym (by L s a) ∙ e)) named);
    cured = λ L M wide s a b p e h.
        let c = (cure L M wide).cured 0 s p (by_refusal L p (main L 0 s) (sym (by L s a) ∙ e)) h in
        record {
          front = c.front;
          rest = c.rest;
          whole = c.whole;
          same = by L c.front (shorter L s c.front c.rest c.whole a) ∙ ap (outcome L) c.same;
          mild =
              subst MildOutcome (sym (by M c.front (shorter M s c.front c.rest c.whole b))) (mild_by M (main M 0 c.front) c.mild);
        };
    mended = λ L s a p e h.
        let c = (mend L).mended 0 s p (by_refusal L p (main L 0 s) (sym (by L s a) ∙ e)) h in
        let up_to : Allows L (c.before ++ c.wrong) = record {
          ceilings = a.ceilings;
          input = omega (arith, a.input, ap length c.whole, length-append c.before (c.wrong ++ c.rest), length-append c.wrong c.rest, length-append c.before c.wrong);
        } in
        record {
          before = c.before;
          wrong = c.wrong;
          rest = c.rest;
          whole = c.whole;
          same = by L (c.before ++ c.wrong) up_to ∙ ap (outcome L) c.same;
          begins = rw zero-add at c.begins;
          mild = λ fits. subst MildOutcome (sym (by L (c.before ++ right (reported p).number) fits)) (mild_by L (main L 0 (c.before ++ right (reported p).number)) c.mild);
        };
  }

-- ## Both readings
pub read_named : Named read
read_named =
    named_by read main (λ L s a. by_main L a.ceilings s a.input) (λ L M wide. blames L M wide) (λ L M wide. limits_only L M wide) (λ L. mends L)

pub strict_named : Named strict_read
strict_named = named_by strict_read strict_main (λ L s a. by_strict_main L a.ceilings s a.input) (λ L M wide. strict_blames L M wide) (λ L M wide. strict_limits_only L M wide) (λ L. strict_mends L)
