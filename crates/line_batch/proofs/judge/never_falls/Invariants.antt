-- `line_batch::judge::never_falls` meets its contract. The invariant: all pcs never fall exactly where those left do not, from the last one on (`Judging.antt`). Assumes nothing.
use mathlib.Core.Path.{◌≡◌}
use lib.Dec.{leb}
use lib.ListN.{drop}
use Rattle.line_batch.specs.Batch.{ordered_from, never_falls}
use Rattle.line_batch.proofs.judge.never_falls.Given as goal

abbrev pub invariant-loop-pc : goal.invariant-loop-pc
invariant-loop-pc l = never_falls l.pcs ≡ ordered_from leb l.last (drop l.pc-index l.pcs)
