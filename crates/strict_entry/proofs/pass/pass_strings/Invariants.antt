-- `strict_entry::pass::pass_strings` meets its contract. The invariant: what all strings show those left show (`Turns.antt`). Assumes nothing.
use Prim.Native.Nat.{◌-◌}
use Rattle.format.specs.ReadFields.{string}
use Rattle.strict_entry.proofs.Turns.{Left}
use Rattle.strict_entry.proofs.pass.pass_strings.Given as goal

abbrev pub invariant-loop : goal.invariant-loop
invariant-loop l = Left (string l.max_string_bytes) l.s l.n l.initial.next.at (l.n - l.counter) l.next.at
