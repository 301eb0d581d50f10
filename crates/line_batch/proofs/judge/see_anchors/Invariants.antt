-- `line_batch::judge::see_anchors` meets its contract. The invariant: what all anchors settle those left settle. Assumes nothing.
use mathlib.Core.Path.{◌≡◌}
use lib.ListN.{length}
use Rattle.line_batch.specs.Inner.Anchors.{anchors_of}
use Rattle.line_batch.specs.Inner.Judged.{seen_of, start_seen}
use Rattle.line_batch.proofs.judge.see_anchors.Given as goal

abbrev pub invariant-loop-seen : goal.invariant-loop-seen
invariant-loop-seen l = seen_of (start_seen l.line_defined) (anchors_of l.s l.initial.rest) ≡ seen_of l.seen (anchors_of l.s l.rest)

abbrev pub decreases-loop-seen : goal.decreases-loop-seen
decreases-loop-seen l = length (anchors_of l.s l.rest)
