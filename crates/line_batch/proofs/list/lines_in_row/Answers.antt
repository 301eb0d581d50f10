-- `line_batch::list::lines_in_row` meets its contract: by what the judge said (`Rows.antt`). Assumes nothing.
use Rattle.std.proofs.lemmas.Result.{err_from_is_err_and}
use Rattle.line_batch.proofs.Rows.{row_stops, row_goes, row_wrote}
use Rattle.line_batch.proofs.list.lines_in_row.Goals as goal

pub returns-in_err-judge : goal.returns-in_err-judge
returns-in_err-judge c =
    let a = c.args in
    let both = row_stops a.s.now a.row a.pcs.now a.lines.now c.all_in-all.ensures c.judge.ensures c.in_err-judge.was in
    let p = err_from_is_err_and c.from_residual.result c.from_residual.ensures.1 in
    rw (p.1, p.2) (record { value = both.0; lines_after = both.1 })

pub write_row-requires : goal.write_row-requires
write_row-requires c =
    let a = c.args in
    (c.requires.0, c.requires.1, row_goes a.s.now a.row a.pcs.now a.lines.now c.all_in-all.ensures c.judge.ensures c.in_ok-judge.was)

pub returns : goal.returns
returns c =
    let a = c.args in
    let both = row_wrote a.s.now a.row a.pcs.now a.lines.now c.all_in-all.ensures c.judge.ensures c.in_ok-judge.was c.write_row.ensures.value c.write_row.ensures.lines_after in
    record { value = both.0; lines_after = both.1 }
