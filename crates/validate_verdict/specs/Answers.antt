-- What is shown of a chunk's findings: the verdict, and how many there are.
use Rattle.std.specs.Prelude.{ℕ, Result, Ok, Err}
use Rattle.format.specs.declared.refusal.Refusal.{Refusal}
use Rattle.validate_rules.specs.declared.finding.Verdict.{Verdict}
use Rattle.std.specs.Prelude.{length}
use Rattle.format.specs.ReadChunk.{Outcome, shown, refusal}
use Rattle.validate_rules.specs.Findings.{chunk_findings, verdict}

abbrev pub shownVerdict : Outcome → Result Verdict Refusal
shownVerdict (shown r) = Ok (verdict (chunk_findings r))
shownVerdict (refusal q) = Err q

abbrev pub shownCount : Outcome → Result ℕ Refusal
shownCount (shown r) = Ok (length (chunk_findings r).findings)
shownCount (refusal q) = Err q
