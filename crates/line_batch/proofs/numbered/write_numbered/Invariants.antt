-- `line_batch::numbered::write_numbered` meets its contract. The invariant: what is left to write (`Writing.antt`). Assumes nothing.
use lib.ListN.{drop}
use Rattle.line_batch.specs.Inner.Anchors.{anchors_of}
use Rattle.line_batch.specs.Inner.Numbered.{passed_by, none_passed, numbered_from}
use Rattle.line_batch.proofs.Writing.{Left}
use Rattle.line_batch.proofs.numbered.write_numbered.Given as goal

abbrev pub invariant-loop-k : goal.invariant-loop-k
invariant-loop-k l = Left l.k (numbered_from l.all.left (passed_by l.s l.z) (drop l.k l.pcs)) l.lines (numbered_from l.all.left (none_passed (anchors_of l.s l.all)) l.pcs) l.initial.lines
