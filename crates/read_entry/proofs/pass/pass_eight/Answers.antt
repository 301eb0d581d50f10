-- `read_entry::pass::pass_eight` meets its contract: by what was read. Assumes nothing.
use Rattle.std.proofs.lemmas.Result.{err_from_is_err_and}
use mathlib.Core.Path.{sym, ◌∙◌}
use lib.ListN.{drop}
use Rattle.format.specs.ReadFields.{field}
use Rattle.read_field.proofs.Shows.{shown_err, shown_ok}
use Rattle.read_entry.proofs.pass.pass_eight.Goals as goal

pub returns-in_err-next : goal.returns-in_err-next
returns-in_err-next c =
    let p = err_from_is_err_and c.from_residual.result c.from_residual.ensures.1 in
    rw (p.1, p.2) (let a = c.args in rw (shown_err (field 8 a.cursor.at (drop a.cursor.at a.s.now)) _ (sym c.in_err-next.was ∙ c.read_u64_le.ensures)))

pub returns : goal.returns
returns c = let a = c.args in rw (shown_ok (field 8 a.cursor.at (drop a.cursor.at a.s.now)) _ _ (sym c.in_ok-next.was ∙ c.read_u64_le.ensures)).is
