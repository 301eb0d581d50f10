-- `index::function_index` meets its contract: the first pass says which case of the reading holds, the second writes the index (`Whole.antt`). Assumes nothing.
use Rattle.std.proofs.lemmas.Result.{err_from_is_err_and}
use mathlib.Core.Path.{refl, sym, ◌∙◌}
use native.Mathlib.Omega.{arith}
use Rattle.format.specs.GrammarChunk.{outermost}
use Rattle.format.specs.ReadChunk.{read}
use Rattle.index.proofs.Whole.{refused-index, no_room, in_limits, never_refused, index-written}
use Rattle.index.proofs.function_index.Goals as goal

pub returns-then-rows-functions : goal.returns-then-rows-functions
returns-then-rows-functions c =
    let a = c.args in let both = no_room a.rows.now (read a.limits a.s.now) c.in_ok-summary.summary (sym c.in_ok-summary.was ∙ c.judge_chunk.ensures) c.if-rows-functions.true in record { value = both.0; rows_after = both.1 }

pub write_function-requires : goal.write_function-requires
write_function-requires c =
    let a = c.args in
    let l = in_limits a.rows.now a.limits a.s.now c.in_ok-summary.summary (sym c.in_ok-summary.was ∙ c.judge_chunk.ensures) in
    let nesting = l.0 in
    (l.1, omega arith, omega arith)

pub returns-in_err-summary : goal.returns-in_err-summary
returns-in_err-summary c =
    let a = c.args in
    let both = refused-index a.rows.now (read a.limits a.s.now) _ (sym c.in_err-summary.was ∙ c.judge_chunk.ensures) in
    let p = err_from_is_err_and c.from_residual.result c.from_residual.ensures.1 in
    rw (p.1, p.2) (record { value = both.0; rows_after = both.1 })

pub returns-in_err-write_function : goal.returns-in_err-write_function
returns-in_err-write_function c =
    let a = c.args in
    never_refused a.rows.now a.limits a.s.now c.in_ok-summary.summary (sym c.in_ok-summary.was ∙ c.judge_chunk.ensures) _
    (sym c.in_err-write_function.was ∙ c.write_function.ensures.value outermost refl refl)

pub returns : goal.returns
returns c =
    let a = c.args in let both = index-written a.rows.now a.limits a.s.now c.in_ok-summary.summary (sym c.in_ok-summary.was ∙ c.judge_chunk.ensures) c.if-rows-functions.false _
    (c.write_function.ensures.wrote outermost refl refl refl refl) in record { value = both.0; rows_after = both.1 }
