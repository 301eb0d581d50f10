-- `read_entry::pass::pass_anchors` meets its contract. The invariant: there is room, and what all anchors show and add those left show and add (`TurnsCounted.antt`). Assumes nothing.
use Prim.Native.Nat.{◌-◌}
use Rattle.format.specs.ReadChunk.{anchor}
use Rattle.format_spelling.specs.ReadSpelling as count
use Rattle.read_entry.proofs.TurnsCounted.{Left}
use Rattle.read_entry.proofs.pass.pass_anchors.Given as goal

abbrev pub invariant-loop : goal.invariant-loop
invariant-loop l = Left anchor count.anchor l.s l.n l.initial.next.at (l.n - l.counter) l.next.at l.initial.tally l.tally
