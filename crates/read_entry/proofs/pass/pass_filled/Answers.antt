-- `read_entry::pass::pass_filled` meets its contract: by what was read (`Filled.antt`). Assumes nothing.
use Rattle.std.proofs.lemmas.Result.{err_from_is_err_and}
use mathlib.Core.Path.{sym, ◌∙◌}
use native.Mathlib.Omega.{arith}
use lib.ListN.{drop}
use Rattle.format.specs.ReadFields.{string}
use Rattle.format_spelling.proofs.Tallies.{adds-not}
use Rattle.read_field.proofs.Shows.{string_err, string-ok}
use Rattle.read_entry.proofs.Filled.{filled-fits, filled-adds}
use Rattle.read_entry.proofs.pass.pass_filled.Goals as goal

pub add_absent-requires : goal.add_absent-requires
add_absent-requires c = let a = c.args in
    filled-fits a.max_string_bytes a.cursor.at (drop a.cursor.at a.s.now) (string-ok (string a.max_string_bytes a.cursor.at (drop a.cursor.at a.s.now)) _ _ (sym c.in_ok-string.was ∙ c.tally_string.ensures.value)) c.tally_string.ensures.adds c.requires
    (omega (arith))

pub returns-in_err-string : goal.returns-in_err-string
returns-in_err-string c =
    let p = err_from_is_err_and c.from_residual.result c.from_residual.ensures.1 in
    rw (p.1, p.2) (let a = c.args in
    let e = string_err (string a.max_string_bytes a.cursor.at (drop a.cursor.at a.s.now)) _ (sym c.in_err-string.was ∙ c.tally_string.ensures.value) in record { value = rw e; adds = adds-not e })

pub returns : goal.returns
returns c = let a = c.args in
    let w = string-ok (string a.max_string_bytes a.cursor.at (drop a.cursor.at a.s.now)) _ _ (sym c.in_ok-string.was ∙ c.tally_string.ensures.value) in record { value = rw w.was.is; adds = filled-adds a.max_string_bytes a.cursor.at (drop a.cursor.at a.s.now) w c.tally_string.ensures.adds c.add_absent.ensures }
