-- The measure of `copy_in_full`, which calls itself for the functions that nest in it: the levels left fall. What its loop keeps.
use mathlib.Core.Path.{◌≡◌}
use Prim.Native.Nat.{◌-◌}
use lib.ListN.{length}
use Rattle.format.specs.GrammarChunk.{Where}
use Rattle.copy_walk.proofs.Loops.{Copies}
use Rattle.copy_full_walk.proofs.Full.{full, asks}
use Rattle.copy_full_walk.proofs.walk.+copy_in_full.Given as goal

abbrev pub decreases-copy_in_full : goal.decreases-copy_in_full
decreases-copy_in_full l = l.left

abbrev pub invariant-loop : goal.invariant-loop
invariant-loop l =
    (length l.out ≡ length l.initial.out)
    × ((w : Where) → l.initial.nested.number ≡ w.number → l.initial.nested.instructions ≡ w.instructions
    → Copies full (asks l.limits l.s l.own w.source) l.s l.limits l.left w l.end l.initial.nested.next.at l.initial.len l.initial.out
    l.nested (l.end - l.counter) l.len l.out)
