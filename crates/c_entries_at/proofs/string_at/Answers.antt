-- `c_entries_at::string_at` meets its contract: by the test of 21 and 22, then by what was read. Assumes nothing.
use mathlib.Core.Path.{sym, ◌∙◌, ap}
use lib.ListN.{drop}
use Rattle.std.proofs.lemmas.Result.{err_from_is_err_and}
use Rattle.format.specs.ReadFields.{string}
use Rattle.read_field.specs.Shown.{string_result}
use Rattle.c_boundary.specs.Status.{limits_of}
use Rattle.c_boundary.proofs.Admitted.{stops, own_limits, behind}
use Rattle.c_entries_at.specs.EntryNumbers.{of_string_at}
use Rattle.c_entries_at.proofs.string_at.Goals as goal

pub returns-in_err-limits : goal.returns-in_err-limits
returns-in_err-limits c =
    let a = c.args in
    let p = err_from_is_err_and c.from_residual.result c.from_residual.ensures.1 in
    rw (p.1, p.2) (stops (limits_of a.limits.now) a.chunk.now _ (sym c.in_err-limits.was ∙ c.admit.ensures))

pub returns-in_err-string : goal.returns-in_err-string
returns-in_err-string c =
    let a = c.args in
    let own = own_limits (limits_of a.limits.now) a.chunk.now (sym c.in_ok-limits.was ∙ c.admit.ensures) in
    let p = err_from_is_err_and c.from_residual-in_err-string.result c.from_residual-in_err-string.ensures.1 in
    rw (p.1, p.2) (behind (limits_of a.limits.now) a.chunk.now (sym c.in_ok-limits.was ∙ c.admit.ensures) of_string_at (sym c.in_err-string.was ∙ c.read_string_lua54.ensures ∙ ap (λ L. string_result (string L.max_string_bytes a.place (drop a.place a.chunk.now))) own))

pub returns : goal.returns
returns c =
    let a = c.args in
    let own = own_limits (limits_of a.limits.now) a.chunk.now (sym c.in_ok-limits.was ∙ c.admit.ensures) in
    rw (c.up_to_three.ensures, c.string_numbers.ensures) (behind (limits_of a.limits.now) a.chunk.now (sym c.in_ok-limits.was ∙ c.admit.ensures) of_string_at (sym c.in_ok-string.was ∙ c.read_string_lua54.ensures ∙ ap (λ L. string_result (string L.max_string_bytes a.place (drop a.place a.chunk.now))) own))
