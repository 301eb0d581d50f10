-- `validate_plan::prepare` meets its contract: by what the first pass showed (`Chunk.antt` of validate_verdict). Assumes nothing.
use Rattle.std.proofs.lemmas.Result.{err_from_is_err_and}
use mathlib.Core.Path.{sym, ap, subst, ◌∙◌}
use Rattle.format.specs.ReadChunk.{read}
use Rattle.validate_rules.specs.Findings.{MAX-DIAGNOSTICS}
use Rattle.validate_search.specs.Inner.Position.{out_of, start_position}
use Rattle.validate_plan.specs.Inner.Plan.{Planned}
use Rattle.read_chunk.proofs.MainAt.{was_refused}
use Rattle.validate_verdict.proofs.Chunk.{was, few_instructions, all-findings}
use Rattle.validate_plan.proofs.Planning.{plan_refused, plan_made}
use Rattle.validate_plan.proofs.prepare.Goals as goal

pub decide-requires : goal.decide-requires
decide-requires c =
    let a = c.args in
    few_instructions a.limits a.s.now c.in_ok-summary.summary (sym c.in_ok-summary.was ∙ c.judge_chunk.ensures)

pub returns-in_err-summary : goal.returns-in_err-summary
returns-in_err-summary c =
    let a = c.args in
    let p = err_from_is_err_and c.from_residual.result c.from_residual.ensures.1 in
    rw (p.1, p.2)
    (plan_refused a.limits a.s.now a.room _
    (was_refused (read a.limits a.s.now) _ (sym c.in_err-summary.was ∙ c.judge_chunk.ensures)))

pub returns : goal.returns
returns c =
    let a = c.args in
    let shown = sym c.in_ok-summary.was ∙ c.judge_chunk.ensures in
    let all =
    ap (λ n. out_of a.limits a.s.now MAX-DIAGNOSTICS (start_position 32 n)) c.kept_count-kept.ensures.0
    ∙ all-findings a.limits a.s.now c.in_ok-summary.summary shown c.kept_count-kept.ensures.1 in
    subst (Planned a.limits a.s.now a.room) (sym c.decide.ensures)
    (plan_made a.limits a.s.now a.room (start_position 32 c.kept_count-kept.result) _ (was a.limits a.s.now c.in_ok-summary.summary shown) all (few_instructions a.limits a.s.now c.in_ok-summary.summary shown))
