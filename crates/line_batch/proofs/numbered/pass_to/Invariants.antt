-- `line_batch::numbered::pass_to` meets its contract. The invariant: where all anchors lead those left lead (`Passing.antt`). Assumes nothing.
use mathlib.Core.Path.{◌≡◌}
use lib.ListN.{length}
use Rattle.line_batch.specs.Inner.Anchors.{anchors_of}
use Rattle.line_batch.specs.Inner.Numbered.{passed_by, pass_to}
use Rattle.line_batch.proofs.numbered.pass_to.Given as goal

abbrev pub invariant-loop-z : goal.invariant-loop-z
invariant-loop-z l = pass_to l.pc (passed_by l.s l.z) ≡ pass_to l.pc (passed_by l.s l.initial.z)

abbrev pub decreases-loop-z : goal.decreases-loop-z
decreases-loop-z l = length (anchors_of l.s l.z.rest)
