-- `read_entry::pass::pass_strings` meets its contract. The invariant: there is room, and what all strings show and add those left show and add (`TurnsCounted.antt`). Assumes nothing.
use Prim.Native.Nat.{◌-◌}
use Rattle.format.specs.ReadFields.{string}
use Rattle.format_spelling.specs.ReadSpelling as count
use Rattle.read_entry.proofs.TurnsCounted.{Left}
use Rattle.read_entry.proofs.pass.pass_strings.Given as goal

abbrev pub invariant-loop : goal.invariant-loop
invariant-loop l = Left (string l.max_string_bytes) count.string l.s l.n l.initial.next.at (l.n - l.counter) l.next.at l.initial.tally l.tally
