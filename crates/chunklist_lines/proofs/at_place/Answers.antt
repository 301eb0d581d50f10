-- `chunklist_lines::at_place` meets its contract: by the place. Assumes nothing.
use Rattle.chunklist_lines.proofs.Laws.{nothing}
use Rattle.chunklist_lines.proofs.at_place.Goals as goal

pub returns-in-None-clause-result_after : goal.returns-in-None-clause-result_after
returns-in-None-clause-result_after g c = rw c.in-None.is (nothing _)
