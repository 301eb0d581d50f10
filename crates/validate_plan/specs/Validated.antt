-- What `validate_chunk_lua54` answers, and what it leaves of the lent list.
--     shown_findings room o         the verdict and the number of findings, where o was read; 26 where there is room for fewer, after every other refusal
--     findings_written old o        what then stands in the list that held `old`
use Rattle.std.specs.Prelude.{Result, Ok, Err}
use Rattle.format.specs.declared.refusal.Refusal.{Refusal}
use Rattle.validate_rules.specs.declared.finding.Verdict.{Verdict}
use Rattle.std.specs.Prelude.{cond, List, ℕ, leb, length}
use Rattle.format.specs.declared.refusal.Refusal.TheVariants.{LentSpace}
use Rattle.format.specs.ReadChunk.{Outcome, shown, refusal}
use Rattle.slice.specs.Over.{over}
use Rattle.validate_rules.specs.declared.finding.Finding.{Finding}
use Rattle.validate_rules.specs.Findings.{Listing, chunk_findings, verdict}

-- of a listing of findings
abbrev pub listing_answer : ℕ → Listing → Result (Verdict × ℕ) Refusal
listing_answer room l = cond (leb (length l.findings) room) (Ok (verdict l, length l.findings)) (Err LentSpace)

abbrev pub shown_findings : ℕ → Outcome → Result (Verdict × ℕ) Refusal
shown_findings room (shown r) = listing_answer room (chunk_findings r)
shown_findings room (refusal q) = Err q

-- the findings, and behind them what stood there; on any refusal all that stood there
abbrev pub findings_written : List Finding → Outcome → List Finding
findings_written old (shown r) = over (chunk_findings r).findings old
findings_written old (refusal q) = old
