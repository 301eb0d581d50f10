-- What is decided before the writer writes.
use Rattle.std.specs.Prelude.{Result, Ok, Err}
use Rattle.std.specs.Prelude.{◌≡◌, cond, List, [], ◌++◌, ℕ, ◌≤◌, leb, length, take, drop}
use Rattle.format.specs.Limits.{MOST}
use Rattle.format.specs.declared.limits.ResourceLimits.{ResourceLimits}
use Rattle.format.specs.declared.refusal.Refusal.{Refusal}
use Rattle.format.specs.declared.refusal.Refusal.TheVariants.{LentSpace}
use Rattle.format.specs.Form.{Bytes}
use Rattle.format.specs.ReadChunk.{read}
use Rattle.validate_rules.specs.declared.finding.Finding.{Finding}
use Rattle.validate_search.specs.declared.search.Position.{Position}
use Rattle.validate_rules.specs.Findings.{MAX-DIAGNOSTICS, Listing, verdict}
use Rattle.validate_search.specs.Inner.Position.{out_of}
use Rattle.validate_plan.specs.declared.Plan.{Plan}
use Rattle.validate_plan.specs.Validated.{shown_findings, findings_written}
use Rattle.validate_plan.specs.Inner.Found.{found_in}

-- all findings where there is room for them, and else none
abbrev pub plan_of : Listing → ℕ → Position → Result Plan Refusal
plan_of l room start =
    cond (leb (length l.findings) room)
    (Ok (record { verdict = verdict l; count = length l.findings; start = start }))
    (Err LentSpace)

-- a list whose first n places have the first n findings
unfoldable pub written : Listing → ℕ → List Finding → List Finding
written l n old = take n l.findings ++ drop n old

-- WHAT A PLAN IS GOOD FOR: its answer is the call's, and so many findings from its position on make the list
pub record Good (L : ResourceLimits) (s : Bytes) (room : ℕ) (p : Plan) : Type 0 where
  pub answers : Ok (p.verdict, p.count) ≡ shown_findings room (read L s)
  pub leaves : (old : List Finding) → length old ≡ room → written (out_of L s MAX-DIAGNOSTICS p.start) p.count old ≡ findings_written old (read L s)
  pub found : take p.count (out_of L s MAX-DIAGNOSTICS p.start).findings ≡ found_in room (read L s)
  pub within : p.count ≤ room
  pub there : p.count ≤ length (out_of L s MAX-DIAGNOSTICS p.start).findings
  pub limited : L.max_total_instructions ≤ MOST

-- and a refusal: it is the call's, and none makes the list
pub record Refuses (L : ResourceLimits) (s : Bytes) (room : ℕ) (q : Refusal) : Type 0 where
  pub answers : Err q ≡ shown_findings room (read L s)
  pub leaves : (old : List Finding) → length old ≡ room → old ≡ findings_written old (read L s)
  pub found : [] ≡ found_in room (read L s)

abbrev pub Planned : ResourceLimits → Bytes → ℕ → Result Plan Refusal → Type 0
Planned L s room (Ok p) = Good L s room p
Planned L s room (Err q) = Refuses L s room q
