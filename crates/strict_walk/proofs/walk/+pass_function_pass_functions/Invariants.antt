-- The measures of the cycle of calls {pass_function, pass_functions}, and what the loop keeps: a function at n levels calls `pass_functions` at n levels,
-- where functions nest in it, and that calls `pass_function` at n - 1: the measure is 2n + 1 and 2n.
use Prim.Native.Nat.{◌*◌, ◌+◌, ◌-◌}
use mathlib.Core.Path.{◌≡◌}
use Rattle.format.specs.GrammarChunk.{Where}
use Rattle.strict_walk.proofs.Passed.{Passed}
use Rattle.strict_walk.proofs.walk.+pass_function_pass_functions.Given as goal

abbrev pub decreases-pass_function : goal.decreases-pass_function
decreases-pass_function l = 2 * l.left + 1

abbrev pub decreases-pass_functions : goal.decreases-pass_functions
decreases-pass_functions l = 2 * l.left

abbrev pub invariant-pass_functions-loop : goal.invariant-pass_functions-loop
invariant-pass_functions-loop l =
    (w : Where) → l.initial.passed.number ≡ w.number → l.initial.passed.instructions ≡ w.instructions → Passed l.s l.limits l.left l.n l.initial.passed.next.at l.passed (l.n - l.counter) w
