-- What is counted of a chunk's findings and warnings, of the code's values.
use Rattle.std.specs.Prelude.{Option, Some, None, Result, Ok, Err}
use Rattle.format.specs.declared.header.Warning.{Warning}
use Rattle.format.specs.declared.refusal.Refusal.{Refusal}
use Rattle.validate_verdict.specs.declared.tally.Totals.{Totals}
use Rattle.std.specs.Prelude.{ℕ}
use Rattle.format.specs.ReadChunk.{Outcome, shown, refusal}
use Rattle.read_chunk.specs.declared.summary.Warnings.{Warnings}
use Rattle.validate_rules.specs.Findings.{chunk_findings}
use Rattle.validate_verdict.specs.Inner.Totals.{tallied}

abbrev pub totals_result : Outcome → Result Totals Refusal
totals_result (shown r) = Ok (tallied (chunk_findings r))
totals_result (refusal q) = Err q

abbrev pub one_warning : Option Warning → ℕ
one_warning (Some w) = 1
one_warning None = 0

abbrev pub both_warnings : Option Warning → Option Warning → ℕ
both_warnings first (Some w) = 2
both_warnings first None = one_warning first

abbrev pub warning_count : Warnings → ℕ
warning_count w = both_warnings w.first w.second
