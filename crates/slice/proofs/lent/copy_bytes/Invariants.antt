-- `slice::lent::copy_bytes` meets its contract. The invariant: the first i bytes are written.
use mathlib.Core.Path.{◌≡◌}
use lib.ListN.{length, take, drop}
use Rattle.slice.specs.Inner.Splice.{splice}
use Rattle.slice.proofs.lent.copy_bytes.Given as goal

abbrev pub invariant-loop-i : goal.invariant-loop-i
invariant-loop-i l = (length l.out ≡ length l.initial.out) × (l.out ≡ splice l.at (take l.i (drop l.start l.s)) l.initial.out)
