-- The measures of the cycle of calls {find_function, find_functions}, and what the loop keeps: as in read_walk's walk, 2n + 1 and 2n at n levels.
use Prim.Native.Nat.{◌*◌, ◌+◌, ◌-◌}
use Rattle.read_find.specs.Inner.Spot.{row_at}
use Rattle.read_find.proofs.Finds.{Behind}
use Rattle.read_find.proofs.spot.+find_function_find_functions.Given as goal

abbrev pub decreases-find_function : goal.decreases-find_function
decreases-find_function l = 2 * l.left + 1

abbrev pub decreases-find_functions : goal.decreases-find_functions
decreases-find_functions l = 2 * l.left

abbrev pub invariant-find_functions-loop : goal.invariant-find_functions-loop
invariant-find_functions-loop l =
    Behind l.s l.limits l.above l.wanted l.n l.left l.initial.skimmed (row_at l.limits l.s l.initial.spot) l.skimmed (l.n - l.counter) (row_at l.limits l.s l.spot)
