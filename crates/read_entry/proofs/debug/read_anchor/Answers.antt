-- `read_entry::debug::read_anchor` meets its contract: at each return the calls say which case of the reader holds (`DebugInfo.antt`). Assumes nothing.
use mathlib.Core.Path.{sym, ◌∙◌}
use Rattle.std.proofs.lemmas.Result.{err_from_is_err_and}
use Rattle.read_entry.proofs.DebugInfo.{line_refused, anchor-read}
use Rattle.read_entry.proofs.debug.read_anchor.Goals as goal

pub returns-in_err-line : goal.returns-in_err-line
returns-in_err-line c = let a = c.args in
    let p = err_from_is_err_and c.from_residual-in_err-line.result c.from_residual-in_err-line.ensures.1 in
    rw (p.1, p.2) (line_refused a.s.now a.cursor.at _ _ (sym c.in_ok-pc.was ∙ c.read_value.ensures) _ (sym c.in_err-line.was ∙ c.read_value-2.ensures))

pub returns : goal.returns
returns c = let a = c.args in
    anchor-read a.s.now a.cursor.at _ _ (sym c.in_ok-pc.was ∙ c.read_value.ensures) _ _ (sym c.in_ok-line.was ∙ c.read_value-2.ensures)
