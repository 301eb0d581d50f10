-- `read_entry::pass::pass_constants` meets its contract. The invariant: there is room, and what all constants show and add those left show and add (`TurnsCounted.antt`). Assumes nothing.
use Prim.Native.Nat.{◌-◌}
use Rattle.format.specs.ReadChunk.{constant}
use Rattle.format_spelling.specs.ReadSpelling as count
use Rattle.read_entry.proofs.TurnsCounted.{Left}
use Rattle.read_entry.proofs.pass.pass_constants.Given as goal

abbrev pub invariant-loop-constant : goal.invariant-loop-constant
invariant-loop-constant l = Left (constant l.max_string_bytes) (count.constant l.max_string_bytes) l.s l.n l.initial.next.at (l.n - l._constant) l.next.at l.initial.tally l.tally
