-- The findings of a chunk as numbers in a lent list, four each.
--     list_numbers              of findings, one behind the other
--     of_findings               the verdict, and how many findings there are
--     numbers_written old o     what then stands in the list that held `old`
use Rattle.std.specs.Prelude.{Result, Ok, Err}
use Rattle.format.specs.declared.refusal.Refusal.{Refusal}
use Rattle.validate_rules.specs.declared.finding.Verdict.{Verdict}
use Rattle.std.specs.Prelude.{List, [], ◌∷◌, ◌++◌, ℕ}
use Rattle.format.specs.ReadChunk.{Outcome, shown, refusal}
use Rattle.slice.specs.Over.{over}
use Rattle.validate_rules.specs.declared.finding.Finding.{Finding}
use Rattle.validate_rules.specs.Findings.{chunk_findings}
use Rattle.c_boundary.specs.Status.{Answer, done, refuses}
use Rattle.c_finding.specs.FindingNumbers.{verdict_number, finding_numbers}

unfoldable pub list_numbers : List Finding → List ℕ
list_numbers [] = []
list_numbers (f ∷ fs) = finding_numbers f ++ list_numbers fs

abbrev pub of_findings : Result (Verdict × ℕ) Refusal → Answer
of_findings (Ok (v, n)) = done (verdict_number v ∷ n ∷ [])
of_findings (Err q) = refuses q

-- the numbers, and behind them what stood there; on any refusal all that stood there
abbrev pub numbers_written : List ℕ → Outcome → List ℕ
numbers_written old (shown r) = over (list_numbers (chunk_findings r).findings) old
numbers_written old (refusal q) = old
