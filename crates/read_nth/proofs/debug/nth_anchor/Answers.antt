-- `read_nth::debug::nth_anchor` meets its contract: those before the entry are passed over, then it is read (`Passing.antt`). Assumes nothing.
use mathlib.Core.Path.{sym, ◌∙◌}
use Rattle.format.specs.ReadChunk.{anchor}
use Rattle.format.proofs.Exact.{exact_many}
use Rattle.format.proofs.ExactChunk.{exact_anchor}
use Rattle.read_entry.specs.Shown.{anchor_result}
use Rattle.format_spelling.proofs.Tallies.{room_unused}
use Rattle.read_nth.proofs.Passing.{second_read}
use Rattle.read_nth.proofs.debug.nth_anchor.Goals as goal

pub pass_anchors-requires : goal.pass_anchors-requires
pass_anchors-requires c = room_unused _

pub returns : goal.returns
returns c = let a = c.args in
    second_read (exact_many a.entry exact_anchor) anchor anchor_result a.s.now a.cursor.at _ (sym c.in_ok-next.was ∙ c.pass_anchors.ensures.value) c.read_anchor.ensures
