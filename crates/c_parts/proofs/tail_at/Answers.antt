-- `c_parts::tail_at` meets its contract: by the test of 21 and 22, then by what was read. Assumes nothing.
use mathlib.Core.Path.{sym, ◌∙◌, ap}
use Rattle.std.proofs.lemmas.Result.{err_from_is_err_and}
use lib.ListN.{drop}
use Rattle.read_prototype.specs.Parts as parts
use Rattle.read_prototype.specs.PartsShown.{tail_result}
use Rattle.c_boundary.specs.Status.{limits_of}
use Rattle.c_boundary.proofs.Admitted.{stops, own_limits, behind}
use Rattle.c_parts.specs.PartNumbers.{of_tail}
use Rattle.c_parts.proofs.tail_at.Goals as goal

pub returns-in_err-limits : goal.returns-in_err-limits
returns-in_err-limits c =
    let a = c.args in
    let p = err_from_is_err_and c.from_residual.result c.from_residual.ensures.1 in
    rw (p.1, p.2) (stops (limits_of a.limits.now) a.chunk.now _ (sym c.in_err-limits.was ∙ c.admit.ensures))

pub returns-in_err-tail : goal.returns-in_err-tail
returns-in_err-tail c =
    let a = c.args in
    let own = own_limits (limits_of a.limits.now) a.chunk.now (sym c.in_ok-limits.was ∙ c.admit.ensures) in
    let p = err_from_is_err_and c.from_residual-in_err-tail.result c.from_residual-in_err-tail.ensures.1 in
    rw (p.1, p.2) (behind (limits_of a.limits.now) a.chunk.now (sym c.in_ok-limits.was ∙ c.admit.ensures) of_tail (sym c.in_err-tail.was ∙ c.read_tail.ensures.value ∙ ap (λ L. tail_result (parts.tail L.max_string_bytes a.place (drop a.place a.chunk.now))) own))

pub returns : goal.returns
returns c =
    let a = c.args in
    let own = own_limits (limits_of a.limits.now) a.chunk.now (sym c.in_ok-limits.was ∙ c.admit.ensures) in
    rw c.tail_numbers.ensures (behind (limits_of a.limits.now) a.chunk.now (sym c.in_ok-limits.was ∙ c.admit.ensures) of_tail (sym c.in_ok-tail.was ∙ c.read_tail.ensures.value ∙ ap (λ L. tail_result (parts.tail L.max_string_bytes a.place (drop a.place a.chunk.now))) own))
