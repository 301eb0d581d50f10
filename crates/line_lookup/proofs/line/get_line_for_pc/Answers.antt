-- `line_lookup::line::get_line_for_pc` meets its contract: by the row (`Asked.antt`). Assumes nothing.
use mathlib.Core.Path.{sym, ◌∙◌}
use Rattle.line_lookup.proofs.Asked.{input_low, line-shown}
use Rattle.line_lookup.proofs.line.get_line_for_pc.Goals as goal

pub line_in_row-requires : goal.line_in_row-requires
line_in_row-requires c = let a = c.args in
    input_low a.limits a.s.now a.function _ (sym c.in_ok-row.was ∙ c.function_row.ensures)

pub returns : goal.returns
returns c = let a = c.args in
    c.line_in_row.ensures ∙ line-shown a.limits a.s.now a.function a.pc _ (sym c.in_ok-row.was ∙ c.function_row.ensures)
