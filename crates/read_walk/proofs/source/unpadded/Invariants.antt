-- `read_walk::source::unpadded` meets its contract. The invariant: the zeros end where they did from the start (`Unpadded.antt`). Assumes nothing.
use mathlib.Core.Path.{◌≡◌}
use Prim.Native.Nat.{◌≤◌}
use Rattle.std.specs.Prelude.{max}
use lib.ListN.{length}
use Rattle.read_walk.specs.Inner.Source.{unpadded_at}
use Rattle.read_walk.proofs.source.unpadded.Given as goal

abbrev pub invariant-loop-place : goal.invariant-loop-place
invariant-loop-place l = (unpadded_at l.s l.place ≡ unpadded_at l.s l.at) × (l.place ≤ max l.at (length l.s))
