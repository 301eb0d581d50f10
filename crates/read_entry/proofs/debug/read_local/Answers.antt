-- `read_entry::debug::read_local` meets its contract: at each return the calls say which case of the reader holds (`DebugInfo.antt`). Assumes nothing.
use mathlib.Core.Path.{sym, ◌∙◌}
use Rattle.std.proofs.lemmas.Result.{err_from_is_err_and}
use Rattle.read_entry.proofs.DebugInfo.{startpc-refused, endpc-refused, local-read}
use Rattle.read_entry.proofs.debug.read_local.Goals as goal

pub returns-in_err-startpc : goal.returns-in_err-startpc
returns-in_err-startpc c =
    let a = c.args in
    let p = err_from_is_err_and c.from_residual-in_err-startpc.result c.from_residual-in_err-startpc.ensures.1 in
    rw (p.1, p.2) (startpc-refused a.s.now a.max_string_bytes a.cursor.at _ _ (sym c.in_ok-name.was ∙ c.read_string_lua54.ensures) _ (sym c.in_err-startpc.was ∙ c.read_value.ensures))

pub returns-in_err-endpc : goal.returns-in_err-endpc
returns-in_err-endpc c =
    let a = c.args in
    let p = err_from_is_err_and c.from_residual-in_err-endpc.result c.from_residual-in_err-endpc.ensures.1 in
    rw (p.1, p.2) (endpc-refused a.s.now a.max_string_bytes a.cursor.at _ _ (sym c.in_ok-name.was ∙ c.read_string_lua54.ensures)
    _ _ (sym c.in_ok-startpc.was ∙ c.read_value.ensures) _ (sym c.in_err-endpc.was ∙ c.read_value-2.ensures))

pub returns : goal.returns
returns c =
    let a = c.args in
    local-read a.s.now a.max_string_bytes a.cursor.at _ _ (sym c.in_ok-name.was ∙ c.read_string_lua54.ensures)
    _ _ (sym c.in_ok-startpc.was ∙ c.read_value.ensures) _ _ (sym c.in_ok-endpc.was ∙ c.read_value-2.ensures)
