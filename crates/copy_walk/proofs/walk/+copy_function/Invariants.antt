-- The measure of `copy_function`, which calls itself for the functions that nest in it: the levels left fall. What its loop keeps.
use mathlib.Core.Path.{◌≡◌}
use Prim.Native.Nat.{◌-◌}
use lib.ListN.{length}
use Rattle.format.specs.Form.{Below}
use Rattle.format.specs.GrammarChunk.{Where}
use Rattle.copy_walk.proofs.Archive.{archive}
use Rattle.copy_walk.proofs.Loops.{Copies}
use Rattle.copy_walk.proofs.walk.+copy_function.Given as goal

abbrev pub decreases-copy_function : goal.decreases-copy_function
decreases-copy_function l = l.left

abbrev pub invariant-loop : goal.invariant-loop
invariant-loop l =
    (length l.out ≡ length l.initial.out)
    × ((w : Where) → l.initial.nested.number ≡ w.number → l.initial.nested.instructions ≡ w.instructions
    → Copies archive (Below 256 l.s) l.s l.limits l.left w l.end l.initial.nested.next.at l.initial.len l.initial.out l.nested (l.end - l.counter) l.len l.out)
