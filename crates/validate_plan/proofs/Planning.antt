-- A plan is good for what its contract says: on a refusal, and where the findings are all there and there is room for them or not.
-- Assumes nothing.
use Rattle.std.specs.Prelude.{Ok, Err}
use mathlib.Core.Path.{◌≡◌, refl, sym, ap, ◌∙◌}
use mathlib.Core.Bool.{Bool, true, false, cond}
use mathlib.Core.List.{List, []}
use Prim.Native.Nat.{ℕ, ◌≤◌}
use native.Mathlib.Omega.{arith}
use lib.Dec.{leb}
use lib.ListN.{length}
use lib.Seq.{take-length}
use borrow.Author.Tests.{leb-true}
use Rattle.format.specs.Limits.{MOST}
use Rattle.format.specs.declared.limits.ResourceLimits.{ResourceLimits}
use Rattle.format.specs.declared.refusal.Refusal.{Refusal}
use Rattle.format.specs.declared.refusal.Refusal.TheVariants.{LentSpace}
use Rattle.format.specs.Form.{Bytes}
use Rattle.format.specs.Reading.{Reading}
use Rattle.format.specs.ReadChunk.{shown, refusal, read}
use Rattle.validate_rules.specs.Findings.{MAX-DIAGNOSTICS, Listing, chunk_findings, verdict}
use Rattle.validate_search.specs.Inner.Position.{out_of}
use Rattle.validate_rules.specs.declared.finding.Finding.{Finding}
use Rattle.validate_search.specs.declared.search.Position.{Position}
use Rattle.slice.specs.Over.{over}
use Rattle.validate_plan.specs.Validated.{listing_answer, shown_findings, findings_written}
use Rattle.validate_plan.specs.Inner.Found.{found_in}
use Rattle.validate_plan.specs.Inner.Plan.{plan_of, written, Refuses, Planned}

pub plan_refused : (L : ResourceLimits) (s : Bytes) (room : ℕ) (q : Refusal) → read L s ≡ refusal q
    → Refuses L s room q
plan_refused L s room q is = record {
  answers = ap (shown_findings room) (sym is);
  leaves = λ old e. ap (findings_written old) (sym is);
  found = ap (found_in room) (sym is);
}

module _ (L : ResourceLimits) (s : Bytes) (room : ℕ) (start : Position) where
  abbrev all : Listing
  all = out_of L s MAX-DIAGNOSTICS start

  module _ (r : Reading) (is : read L s ≡ shown r) (same : all ≡ chunk_findings r) (few : L.max_total_instructions ≤ MOST) where
    answer_is : shown_findings room (read L s) ≡ listing_answer room all
    answer_is = ap (shown_findings room) is ∙ ap (listing_answer room) (sym same)

    list_is : (old : List Finding) → findings_written old (read L s) ≡ over all.findings old
    list_is old = ap (findings_written old) is ∙ ap (λ l. over l.findings old) (sym same)

    found-is : found_in room (read L s) ≡ cond (leb (length all.findings) room) all.findings []
    found-is = ap (found_in room) is ∙ ap (λ l. cond (leb (length l.findings) room) l.findings []) (sym same)

    by_room : (b : Bool) → leb (length all.findings) room ≡ b
        → Planned L s room
        (cond b (Ok (record { verdict = verdict all; count = length all.findings; start = start })) (Err LentSpace))
    unfolding written
    by_room true e = record {
      answers = sym (answer_is ∙ rw e);
      leaves = λ old z. rw (take-length) (sym (list_is old ∙ rw (z, e)));
      found = rw (take-length) (sym (found-is ∙ rw e));
      within = leb-true (length all.findings) room e;
      there = omega arith;
      limited = few;
    }
    by_room false e = record {
      answers = sym (answer_is ∙ rw e);
      leaves = λ old z. sym (list_is old ∙ rw (z, e));
      found = sym (found-is ∙ rw e);
    }

    pub plan_made : Planned L s room (plan_of all room start)
    plan_made = by_room (leb (length all.findings) room) refl
