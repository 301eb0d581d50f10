-- `c_entries_at::word_at` meets its contract: by the test of 21 and 22, then by what was read. Assumes nothing.
use mathlib.Core.Path.{sym, ◌∙◌}
use Rattle.std.proofs.lemmas.Result.{err_from_is_err_and}
use Rattle.c_boundary.specs.Status.{limits_of}
use Rattle.c_boundary.proofs.Admitted.{stops, behind}
use Rattle.c_entries_at.specs.EntryNumbers.{of_word_at}
use Rattle.c_entries_at.proofs.word_at.Goals as goal

pub returns-in_err-admit : goal.returns-in_err-admit
returns-in_err-admit c =
    let a = c.args in
    let p = err_from_is_err_and c.from_residual.result c.from_residual.ensures.1 in
    rw (p.1, p.2) (stops (limits_of a.limits.now) a.chunk.now _ (sym c.in_err-admit.was ∙ c.admit.ensures))

pub returns-in_err-word : goal.returns-in_err-word
returns-in_err-word c =
    let a = c.args in
    let p = err_from_is_err_and c.from_residual-in_err-word.result c.from_residual-in_err-word.ensures.1 in
    rw (p.1, p.2) (behind (limits_of a.limits.now) a.chunk.now (sym c.in_ok-admit.was ∙ c.admit.ensures) of_word_at (sym c.in_err-word.was ∙ c.read_u32_le.ensures))

pub returns : goal.returns
returns c =
    let a = c.args in
    behind (limits_of a.limits.now) a.chunk.now (sym c.in_ok-admit.was ∙ c.admit.ensures) of_word_at (sym c.in_ok-word.was ∙ c.read_u32_le.ensures)
