-- `line_batch::walk::take_up` meets its contract. The invariant: what the anchors from the start on give those left give (`Taking.antt`). Assumes nothing.
use mathlib.Core.Path.{◌≡◌}
use Prim.Native.Nat.{◌*◌, ◌≤◌}
use lib.ListN.{length}
use lib.Signed.{mag}
use Rattle.line_batch.specs.Inner.Anchors.{anchors_of}
use Rattle.line_batch.specs.Inner.Walk.{take_step}
use Rattle.line_batch.specs.Inner.Steps.{step_of}
use Rattle.line_batch.proofs.walk.take_up.Given as goal

abbrev pub invariant-loop-walk : goal.invariant-loop-walk
invariant-loop-walk l = (take_step l.pc (step_of l.s l.walk) ≡ take_step l.pc (step_of l.s l.initial.walk)) × (mag l.initial.walk.sum ≤ 128 * l.initial.walk.read → mag l.walk.sum ≤ 128 * l.walk.read)

abbrev pub decreases-loop-walk : goal.decreases-loop-walk
decreases-loop-walk l = length (anchors_of l.s l.walk.rest)
