-- `c_entries_at::upvalue_at` meets its contract: by the test of 21 and 22, then by what was read. Assumes nothing.
use mathlib.Core.Path.{sym, ◌∙◌}
use Rattle.std.proofs.lemmas.Result.{err_from_is_err_and}
use Rattle.c_boundary.specs.Status.{limits_of}
use Rattle.c_boundary.proofs.Admitted.{stops, behind}
use Rattle.c_entries_at.specs.EntryNumbers.{of_upvalue_at}
use Rattle.c_entries_at.proofs.upvalue_at.Goals as goal

pub returns-in_err-admit : goal.returns-in_err-admit
returns-in_err-admit c =
    let a = c.args in
    let p = err_from_is_err_and c.from_residual.result c.from_residual.ensures.1 in
    rw (p.1, p.2) (stops (limits_of a.limits.now) a.chunk.now _ (sym c.in_err-admit.was ∙ c.admit.ensures))

pub returns-in_err-upvalue : goal.returns-in_err-upvalue
returns-in_err-upvalue c =
    let a = c.args in
    let p = err_from_is_err_and c.from_residual-in_err-upvalue.result c.from_residual-in_err-upvalue.ensures.1 in
    rw (p.1, p.2) (behind (limits_of a.limits.now) a.chunk.now (sym c.in_ok-admit.was ∙ c.admit.ensures) of_upvalue_at (sym c.in_err-upvalue.was ∙ c.read_upvalue.ensures))

pub returns : goal.returns
returns c =
    let a = c.args in
    rw (c.up_to_three.ensures, c.upvalue_numbers.ensures) (behind (limits_of a.limits.now) a.chunk.now (sym c.in_ok-admit.was ∙ c.admit.ensures) of_upvalue_at (sym c.in_ok-upvalue.was ∙ c.read_upvalue.ensures))
