-- What is counted of a listing, and the verdict on that.
use Rattle.std.specs.Prelude.{Bool, ◌||◌, cond, ℕ, ◌+◌, length}
use Rattle.validate_rules.specs.declared.finding.Verdict.{Verdict}
use Rattle.validate_rules.specs.declared.finding.Verdict.TheVariants.{ValidForAnalysis, Invalid, Incomplete}
use Rattle.validate_verdict.specs.declared.tally.Totals.{Totals}
use Rattle.validate_rules.specs.Findings.{Listing, any_error}

-- behind so many findings, and an error or none
abbrev pub and_tally : ℕ → Bool → Listing → Totals
and_tally n errors l = record { count = n + length l.findings; errors = errors || any_error l.findings; stopped = l.stopped }

abbrev pub tallied : Listing → Totals
tallied l = record { count = length l.findings; errors = any_error l.findings; stopped = l.stopped }

abbrev pub verdict_shown : Totals → Verdict
verdict_shown t = cond t.errors Invalid (cond t.stopped Incomplete ValidForAnalysis)
