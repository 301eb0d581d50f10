-- `write_function` calls itself for the functions that nest in it: the levels left fall. The loop keeps what Rows.antt says of the rows.
use mathlib.Core.Path.{◌≡◌}
use Prim.Native.Nat.{◌+◌, ◌-◌}
use lib.ListN.{length}
use Rattle.index_walk.proofs.Rows.{Behind}
use Rattle.index_walk.proofs.+write_function.Given as goal

abbrev pub decreases-write_function : goal.decreases-write_function
decreases-write_function l = l.left

abbrev pub invariant-loop : goal.invariant-loop
invariant-loop l =
    (length l.rows ≡ length l.initial.rows)
    × Behind l.s l.limits l.end l.left (l.depth + 1) l.from.number l.initial.nested l.initial.rows l.nested
    (l.end - l.counter) l.rows
