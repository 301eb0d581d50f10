-- The findings that are written where there is room for so many: all, or on a refusal none.
use Rattle.std.specs.Prelude.{cond, List, [], ℕ, leb, length}
use Rattle.format.specs.ReadChunk.{Outcome, shown, refusal}
use Rattle.validate_rules.specs.declared.finding.Finding.{Finding}
use Rattle.validate_rules.specs.Findings.{chunk_findings}

abbrev pub found_in : ℕ → Outcome → List Finding
found_in room (shown r) = cond (leb (length (chunk_findings r).findings) room) (chunk_findings r).findings []
found_in room (refusal q) = []
