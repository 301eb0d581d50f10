-- `c_parts::head_at` meets its contract: by the test of 21 and 22, then by what was read. Assumes nothing.
use mathlib.Core.Path.{sym, ◌∙◌, ap}
use Rattle.std.proofs.lemmas.Result.{err_from_is_err_and}
use lib.ListN.{drop}
use Rattle.read_prototype.specs.Parts as parts
use Rattle.read_prototype.specs.PartsShown.{head_result}
use Rattle.c_boundary.specs.Status.{limits_of}
use Rattle.c_boundary.proofs.Admitted.{stops, own_limits, behind}
use Rattle.c_parts.specs.PartNumbers.{of_head}
use Rattle.c_parts.proofs.head_at.Goals as goal

pub returns-in_err-limits : goal.returns-in_err-limits
returns-in_err-limits c =
    let a = c.args in
    let p = err_from_is_err_and c.from_residual.result c.from_residual.ensures.1 in
    rw (p.1, p.2) (stops (limits_of a.limits.now) a.chunk.now _ (sym c.in_err-limits.was ∙ c.admit.ensures))

pub returns-in_err-head : goal.returns-in_err-head
returns-in_err-head c =
    let a = c.args in
    let own = own_limits (limits_of a.limits.now) a.chunk.now (sym c.in_ok-limits.was ∙ c.admit.ensures) in
    let p = err_from_is_err_and c.from_residual-in_err-head.result c.from_residual-in_err-head.ensures.1 in
    rw (p.1, p.2) (behind (limits_of a.limits.now) a.chunk.now (sym c.in_ok-limits.was ∙ c.admit.ensures) of_head (sym c.in_err-head.was ∙ c.read_head.ensures.value ∙ ap (λ L. head_result (parts.head L 0 a.place (drop a.place a.chunk.now))) own))

pub returns : goal.returns
returns c =
    let a = c.args in
    let own = own_limits (limits_of a.limits.now) a.chunk.now (sym c.in_ok-limits.was ∙ c.admit.ensures) in
    rw c.head_numbers.ensures (behind (limits_of a.limits.now) a.chunk.now (sym c.in_ok-limits.was ∙ c.admit.ensures) of_head (sym c.in_ok-head.was ∙ c.read_head.ensures.value ∙ ap (λ L. head_result (parts.head L 0 a.place (drop a.place a.chunk.now))) own))
