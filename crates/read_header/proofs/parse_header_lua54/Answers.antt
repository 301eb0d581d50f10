-- `read_header::parse_header_lua54` meets its contract: at each return the calls say which case of the reader holds (`Answers.antt`). Assumes nothing.
use mathlib.Core.Path.{sym, ◌∙◌}
use Rattle.std.proofs.lemmas.Result.{err_from_is_err_and}
use Rattle.read_header.proofs.Answers.{front-refused, format-refused, back-refused, accepted}
use Rattle.read_header.proofs.parse_header_lua54.Goals as goal

pub returns-in_err-format : goal.returns-in_err-format
returns-in_err-format c =
    let a = c.args in
    let p = err_from_is_err_and c.from_residual-in_err-format.result c.from_residual-in_err-format.ensures.1 in
    rw (p.1, p.2) (format-refused a.s.now a.cursor.at c.in_ok-place.place (sym c.in_ok-place.was ∙ c.before_format.ensures) _ (sym c.in_err-format.was ∙ c.read_u8.ensures))

pub returns-in_err-next : goal.returns-in_err-next
returns-in_err-next c =
    let a = c.args in
    let p = err_from_is_err_and c.from_residual-in_err-next.result c.from_residual-in_err-next.ensures.1 in
    rw (p.1, p.2) (back-refused a.s.now a.cursor.at c.in_ok-place.place (sym c.in_ok-place.was ∙ c.before_format.ensures) c.in_ok-format.format c.in_ok-format.behind (sym c.in_ok-format.was ∙ c.read_u8.ensures) _ (sym c.in_err-next.was ∙ c.behind_format.ensures))

pub returns : goal.returns
returns c =
    let a = c.args in
    rw (c.format_warning.ensures, c.header_of.ensures)
    (accepted a.s.now a.cursor.at c.in_ok-place.place (sym c.in_ok-place.was ∙ c.before_format.ensures) c.in_ok-format.format c.in_ok-format.behind (sym c.in_ok-format.was ∙ c.read_u8.ensures) c.in_ok-next.next (sym c.in_ok-next.was ∙ c.behind_format.ensures))
