-- `read_nth::debug::nth_delta` meets its contract: those before the entry are passed over, then it is read (`Passing.antt`). Assumes nothing.
use mathlib.Core.Path.{sym, ◌∙◌}
use Rattle.format.specs.ReadFields.{byte}
use Rattle.format.proofs.Exact.{exact_run}
use Rattle.read_field.specs.Shown.{shown}
use Rattle.read_nth.proofs.Passing.{second_read}
use Rattle.read_nth.proofs.debug.nth_delta.Goals as goal

pub returns : goal.returns
returns c = let a = c.args in
    second_read (exact_run a.entry) byte shown a.s.now a.cursor.at _ (sym c.in_ok-next.was ∙ c.read_exact.ensures) c.read_u8.ensures
