-- `c_entries_at::local_at` meets its contract: by the test of 21 and 22, then by what was read. Assumes nothing.
use mathlib.Core.Path.{sym, ◌∙◌, ap}
use lib.ListN.{drop}
use Rattle.std.proofs.lemmas.Result.{err_from_is_err_and}
use Rattle.read_entry.specs.Readers.{raw_local}
use Rattle.read_entry.specs.Shown.{local_result}
use Rattle.c_boundary.specs.Status.{limits_of}
use Rattle.c_boundary.proofs.Admitted.{stops, own_limits, behind}
use Rattle.c_entries_at.specs.EntryNumbers.{of_local_at}
use Rattle.c_entries_at.proofs.local_at.Goals as goal

pub returns-in_err-limits : goal.returns-in_err-limits
returns-in_err-limits c =
    let a = c.args in
    let p = err_from_is_err_and c.from_residual.result c.from_residual.ensures.1 in
    rw (p.1, p.2) (stops (limits_of a.limits.now) a.chunk.now _ (sym c.in_err-limits.was ∙ c.admit.ensures))

pub returns-in_err-local : goal.returns-in_err-local
returns-in_err-local c =
    let a = c.args in
    let own = own_limits (limits_of a.limits.now) a.chunk.now (sym c.in_ok-limits.was ∙ c.admit.ensures) in
    let p = err_from_is_err_and c.from_residual-in_err-local.result c.from_residual-in_err-local.ensures.1 in
    rw (p.1, p.2) (behind (limits_of a.limits.now) a.chunk.now (sym c.in_ok-limits.was ∙ c.admit.ensures) of_local_at (sym c.in_err-local.was ∙ c.read_local.ensures ∙ ap (λ L. local_result (raw_local L.max_string_bytes a.place (drop a.place a.chunk.now))) own))

pub returns : goal.returns
returns c =
    let a = c.args in
    let own = own_limits (limits_of a.limits.now) a.chunk.now (sym c.in_ok-limits.was ∙ c.admit.ensures) in
    rw c.local_numbers_at.ensures (behind (limits_of a.limits.now) a.chunk.now (sym c.in_ok-limits.was ∙ c.admit.ensures) of_local_at (sym c.in_ok-local.was ∙ c.read_local.ensures ∙ ap (λ L. local_result (raw_local L.max_string_bytes a.place (drop a.place a.chunk.now))) own))
