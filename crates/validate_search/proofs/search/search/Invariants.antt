-- The loop of `validate_search::search::search`. The invariant: what the position that came in stands for is what the variables stand for here.
-- The measure is the functions still to come.
use mathlib.Core.Path.{◌≡◌}
use mathlib.Core.List.{◌++◌}
use lib.ListN.{length}
use Rattle.read_next.specs.Inner.Rows.{rows_from}
use Rattle.validate_rules.specs.Findings.{limited}
use Rattle.validate_search.specs.Inner.Position.{code_left, row_groups, goes_on}
use Rattle.validate_search.proofs.search.search.Given as goal

abbrev pub invariant-loop-first : goal.invariant-loop-first
invariant-loop-first l =
    goes_on l.limits l.s l.max l.p
    ≡ limited l.max l.p.found (code_left l.s l.code ++ row_groups l.s l.number (rows_from l.limits l.s l.left l.depth l.at.at))

abbrev pub decreases-loop-first : goal.decreases-loop-first
decreases-loop-first l = length (rows_from l.limits l.s l.left l.depth l.at.at)
