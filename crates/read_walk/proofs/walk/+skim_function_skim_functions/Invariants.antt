-- The measures of the cycle of calls {skim_function, skim_functions}, and what the loop keeps: a function at n levels calls `skim_functions` at n levels,
-- where functions nest in it, and that calls `skim_function` at n - 1: the measure is 2n + 1 and 2n.
use Prim.Native.Nat.{◌*◌, ◌+◌, ◌-◌}
use mathlib.Core.Path.{◌≡◌}
use Rattle.format.specs.GrammarChunk.{Where}
use Rattle.format_spelling.specs.Inner.Tally.{Room}
use Rattle.read_walk.proofs.Passed.{Passed}
use Rattle.read_walk.proofs.walk.+skim_function_skim_functions.Given as goal

abbrev pub decreases-skim_function : goal.decreases-skim_function
decreases-skim_function l = 2 * l.left + 1

abbrev pub decreases-skim_functions : goal.decreases-skim_functions
decreases-skim_functions l = 2 * l.left

abbrev pub invariant-skim_functions-loop : goal.invariant-skim_functions-loop
invariant-skim_functions-loop l =
    Room l.tally l.skimmed.next.at
    × ((w : Where) → l.initial.skimmed.number ≡ w.number → l.initial.skimmed.instructions ≡ w.instructions → Passed l.s l.limits l.left l.n l.source l.initial.skimmed l.initial.tally l.skimmed (l.n - l.counter) l.tally w)
