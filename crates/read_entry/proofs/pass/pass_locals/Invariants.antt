-- `read_entry::pass::pass_locals` meets its contract. The invariant: there is room, and what all local variables show and add those left show and add (`TurnsCounted.antt`). Assumes nothing.
use Prim.Native.Nat.{◌-◌}
use Rattle.format.specs.ReadChunk.{local}
use Rattle.format_spelling.specs.ReadSpelling as count
use Rattle.read_entry.proofs.TurnsCounted.{Left}
use Rattle.read_entry.proofs.pass.pass_locals.Given as goal

abbrev pub invariant-loop : goal.invariant-loop
invariant-loop l = Left (local l.max_string_bytes) (count.local l.max_string_bytes) l.s l.n l.initial.next.at (l.n - l.counter) l.next.at l.initial.tally l.tally
