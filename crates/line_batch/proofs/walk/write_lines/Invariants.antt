-- `line_batch::walk::write_lines` meets its contract. The invariant: what is written in the end from here on is what is written from the start on (`Writing.antt`).
use mathlib.Core.Path.{◌≡◌}
use Prim.Native.Nat.{◌*◌, ◌≤◌}
use lib.ListN.{length, drop}
use lib.Signed.{mag}
use Rattle.slice.specs.Inner.Splice.{splice}
use Rattle.line_batch.specs.Inner.Walk.{lines_from, end_of}
use Rattle.line_batch.specs.Inner.Steps.{step_of, Writable}
use Rattle.line_batch.proofs.walk.write_lines.Given as goal

abbrev pub invariant-loop-k : goal.invariant-loop-k
invariant-loop-k l =
    (length l.lines ≡ length l.initial.lines)
    × (splice l.k (lines_from l.deltas (step_of l.s l.walk) (drop l.k l.pcs)) l.lines ≡ splice l.start (lines_from l.deltas (step_of l.s l.initial.walk) (drop l.start l.pcs)) l.initial.lines)
    × (end_of l.deltas (step_of l.s l.walk) (drop l.k l.pcs) ≡ end_of l.deltas (step_of l.s l.initial.walk) (drop l.start l.pcs))
    × (mag l.walk.sum ≤ 128 * l.walk.read)
    × Writable l.deltas (step_of l.s l.walk) (drop l.k l.pcs)
