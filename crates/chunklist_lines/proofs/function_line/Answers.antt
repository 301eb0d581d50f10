-- `chunklist_lines::function_line` meets its contract. Assumes nothing.
use Rattle.chunklist_lines.specs.Inner.Rows.{row_line}
use Rattle.chunklist_lines.proofs.function_line.Goals as goal

pub returns-clause-result_after : goal.returns-clause-result_after
unfolding row_line
returns-clause-result_after g c = c.numbers.ensures.result_after

pub returns-clause-given : goal.returns-clause-given
unfolding row_line
returns-clause-given g c = c.numbers.ensures.given
