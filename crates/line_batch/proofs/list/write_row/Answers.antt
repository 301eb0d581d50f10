-- `line_batch::list::write_row` meets its contract: what the two writers wrote is all (`Rows.antt`). Assumes nothing.
use native.Mathlib.Omega.{arith}
use lib.ListN.{length}
use Rattle.line_batch.proofs.Rows.{allowed, ready, done}
use Rattle.line_batch.proofs.list.write_row.Goals as goal

pub write_front-start-requires : goal.write_front-start-requires
write_front-start-requires c = let a = c.args in
    (allowed a.s.now a.row (length a.lines.now) a.pcs.now c.requires.1 c.requires.2).room

pub write_lines-requires : goal.write_lines-requires
write_lines-requires c = let a = c.args in
    let is = ready a.s.now a.row (length a.lines.now) a.pcs.now c.requires.1 c.requires.2 c.bytes_at-deltas.ensures c.all_in-all.ensures c.write_front-start.ensures.value a.lines.now _ c.write_front-start.ensures.lines_after (omega arith) c.requires.0 in
    (is.0, is.1, omega arith, is.2)

pub returns : goal.returns
returns c = let a = c.args in let both = done a.s.now a.row (length a.lines.now) a.pcs.now c.requires.1 c.requires.2 c.bytes_at-deltas.ensures c.all_in-all.ensures c.write_front-start.ensures.value a.lines.now _ c.write_front-start.ensures.lines_after (omega arith) c.write_lines.ensures.lines_after c.write_lines.ensures.value in record { lines_after = both.0; value = both.1 }
