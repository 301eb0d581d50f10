-- `read_entry::constant::read_constant` meets its contract: by whether the tag is there (`Constants.antt`). Assumes nothing.
use Rattle.std.proofs.lemmas.Result.{err_from_is_err_and}
use mathlib.Core.Path.{sym, ◌∙◌}
use Rattle.read_entry.proofs.Constants.{tag_refused, tag_read}
use Rattle.read_entry.proofs.constant.read_constant.Goals as goal

pub returns-in_err-value : goal.returns-in_err-value
returns-in_err-value c =
    let p = err_from_is_err_and c.from_residual.result c.from_residual.ensures.1 in
    rw (p.1, p.2) (let a = c.args in tag_refused a.s.now a.max_string_bytes a.cursor.at _ (sym c.in_err-value.was ∙ c.read_u8.ensures))

pub returns : goal.returns
returns c = let a = c.args in tag_read a.s.now a.max_string_bytes a.cursor.at _ _ (sym c.in_ok-value.was ∙ c.read_u8.ensures) c.read_tagged.ensures
