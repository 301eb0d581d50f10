-- `read_next::go_up` meets its contract. The invariant: what is still to come at the start is what is still to come here. The measure is the level.
use mathlib.Core.Path.{◌≡◌}
use Rattle.read_next.specs.Inner.Rows.{rows_from}
use Rattle.read_next.proofs.go_up.Given as goal

abbrev pub invariant-loop-limits : goal.invariant-loop-limits
invariant-loop-limits l = rows_from l.limits l.s l.left l.depth l.initial.i.at ≡ rows_from l.limits l.s l.left l.d l.i.at

abbrev pub decreases-loop-limits : goal.decreases-loop-limits
decreases-loop-limits l = l.d
