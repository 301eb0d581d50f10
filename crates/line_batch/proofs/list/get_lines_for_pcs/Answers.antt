-- `line_batch::list::get_lines_for_pcs` meets its contract: by the row (`Rows.antt`). Assumes nothing.
use Rattle.std.proofs.lemmas.Result.{err_from_is_err_and}
use mathlib.Core.Path.{sym, ◌∙◌}
use Rattle.format.specs.ReadChunk.{read}
use Rattle.show_row.specs.Asked.{function_of}
use Rattle.line_lookup.proofs.Asked.{input_low}
use Rattle.line_batch.proofs.Rows.{full_row, lines-refused, lines-shown}
use Rattle.line_batch.proofs.list.get_lines_for_pcs.Goals as goal

pub lines_in_row-requires : goal.lines_in_row-requires
lines_in_row-requires c =
    let a = c.args in
    let e = sym c.in_ok-row.was ∙ c.function_row.ensures in
    (input_low a.limits a.s.now a.function _ e, full_row a.limits a.s.now a.function _ e)

pub returns-in_err-row : goal.returns-in_err-row
returns-in_err-row c =
    let a = c.args in
    let both = lines-refused a.lines.now a.pcs.now (function_of a.function (read a.limits a.s.now)) _ (sym c.in_err-row.was ∙ c.function_row.ensures) in
    let p = err_from_is_err_and c.from_residual.result c.from_residual.ensures.1 in
    rw (p.1, p.2) (record { value = both.0; lines_after = both.1 })

pub returns : goal.returns
returns c =
    let a = c.args in
    let both = lines-shown a.limits a.s.now a.function _ (sym c.in_ok-row.was ∙ c.function_row.ensures) a.lines.now a.pcs.now c.lines_in_row.ensures.value c.lines_in_row.ensures.lines_after in
    record { value = both.0; lines_after = both.1 }
