-- `read_chunk::read_before_main` meets its contract: at each return the calls say which case of the reader holds (`Answers.antt`). Assumes nothing.
use Rattle.std.proofs.lemmas.Result.{err_from_is_err_and}
use mathlib.Core.Path.{sym, ◌∙◌}
use Rattle.read_chunk.proofs.Answers.{header_refused, byte-refused, before-read}
use Rattle.read_chunk.proofs.read_before_main.Goals as goal

pub returns-in_err-header : goal.returns-in_err-header
returns-in_err-header c =
    let a = c.args in
    let p = err_from_is_err_and c.from_residual.result c.from_residual.ensures.1 in
    rw (p.1, p.2) (header_refused a.s.now _ (sym c.in_err-header.was ∙ c.parse_header_lua54.ensures))

pub returns-in_err-next : goal.returns-in_err-next
returns-in_err-next c =
    let a = c.args in
    let p = err_from_is_err_and c.from_residual-in_err-next.result c.from_residual-in_err-next.ensures.1 in
    rw (p.1, p.2) (byte-refused a.s.now c.in_ok-header.header c.in_ok-header.warning c.in_ok-header.behind (sym c.in_ok-header.was ∙ c.parse_header_lua54.ensures) _ (sym c.in_err-next.was ∙ c.read_u8.ensures))

pub returns : goal.returns
returns c =
    let a = c.args in
    before-read a.s.now c.in_ok-header.header c.in_ok-header.warning c.in_ok-header.behind (sym c.in_ok-header.was ∙ c.parse_header_lua54.ensures) _ c.in_ok-next.next (sym c.in_ok-next.was ∙ c.read_u8.ensures)
