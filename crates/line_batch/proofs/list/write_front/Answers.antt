-- `line_batch::list::write_front` meets its contract: by the test (`Rows.antt`). Assumes nothing.
use Rattle.line_batch.proofs.Rows.{front_numbered, front-none}
use Rattle.line_batch.proofs.list.write_front.Goals as goal

pub returns-then-all-instructions : goal.returns-then-all-instructions
returns-then-all-instructions c =
    let a = c.args in let both = front_numbered a.s.now a.row a.pcs.now a.lines.now c.all_in-all.ensures c.if-all-instructions.true c.write_numbered.ensures.lines_after c.write_numbered.ensures.value in record { lines_after = both.0; value = both.1 }

pub returns : goal.returns
returns c =
    let a = c.args in let both = front-none a.s.now a.row a.pcs.now a.lines.now c.all_in-all.ensures c.if-all-instructions.false in record { lines_after = both.0; value = both.1 }
