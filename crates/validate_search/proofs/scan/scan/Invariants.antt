-- The loop of `validate_search::scan::scan`. The invariant (`Stands`): but for empty groups, what was left at the start is what is left here.
use Rattle.validate_search.proofs.Laws.{Stands}
use Rattle.validate_search.proofs.scan.scan.Given as goal

abbrev pub invariant-loop-pc : goal.invariant-loop-pc
invariant-loop-pc l = Stands l.s l.fn.c l.end l.at l.pc
