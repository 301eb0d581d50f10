-- `validate_verdict::verdict::chunk_totals` meets its contract: by what the first pass showed (`Chunk.antt`). Assumes nothing.
use Rattle.std.specs.Prelude.{Ok}
use mathlib.Core.Path.{sym, ap, ◌∙◌}
use Rattle.validate_rules.specs.Findings.{MAX-DIAGNOSTICS}
use Rattle.validate_search.specs.Inner.Position.{out_of, start_position}
use Rattle.validate_verdict.specs.Inner.Totals.{tallied}
use Rattle.validate_verdict.proofs.Chunk.{few_instructions, totals_shown}
use Rattle.validate_verdict.proofs.verdict.chunk_totals.Goals as goal

pub tally-totals-requires : goal.tally-totals-requires
tally-totals-requires c =
    let a = c.args in
    few_instructions a.limits a.s.now c.in_ok-summary.summary (sym c.in_ok-summary.was ∙ c.judge_chunk.ensures)

pub returns : goal.returns
returns c =
    let a = c.args in
    ap Ok c.tally-totals.ensures
    ∙ ap (λ n. Ok (tallied (out_of a.limits a.s.now MAX-DIAGNOSTICS (start_position 32 n)))) c.kept_count-kept.ensures.0
    ∙ totals_shown a.limits a.s.now c.in_ok-summary.summary (sym c.in_ok-summary.was ∙ c.judge_chunk.ensures) c.kept_count-kept.ensures.1
