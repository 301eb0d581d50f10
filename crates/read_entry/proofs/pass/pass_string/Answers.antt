-- `read_entry::pass::pass_string` meets its contract: by what was read. Assumes nothing.
use Rattle.std.proofs.lemmas.Result.{err_from_is_err_and}
use mathlib.Core.Path.{sym, ◌∙◌}
use lib.ListN.{drop}
use Rattle.format.specs.ReadFields.{string}
use Rattle.read_field.proofs.Shows.{string_err, string-ok}
use Rattle.read_entry.proofs.pass.pass_string.Goals as goal

pub returns-in_err-next : goal.returns-in_err-next
returns-in_err-next c =
    let p = err_from_is_err_and c.from_residual.result c.from_residual.ensures.1 in
    rw (p.1, p.2) (let a = c.args in record { value = rw (string_err (string a.max_string_bytes a.cursor.at (drop a.cursor.at a.s.now)) _ (sym c.in_err-next.was ∙ c.tally_string.ensures.value)); adds = c.tally_string.ensures.adds })

pub returns : goal.returns
returns c = let a = c.args in record { value = rw (string-ok (string a.max_string_bytes a.cursor.at (drop a.cursor.at a.s.now)) _ _ (sym c.in_ok-next.was ∙ c.tally_string.ensures.value)).was.is; adds = c.tally_string.ensures.adds }
