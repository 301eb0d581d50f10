-- `strict_entry::pass::pass_locals` meets its contract. The invariant: what all local variables show those left show (`Turns.antt`). Assumes nothing.
use Prim.Native.Nat.{◌-◌}
use Rattle.format_strict.specs.ReadStrict.{strict_local}
use Rattle.strict_entry.proofs.Turns.{Left}
use Rattle.strict_entry.proofs.pass.pass_locals.Given as goal

abbrev pub invariant-loop : goal.invariant-loop
invariant-loop l = Left (strict_local l.max_string_bytes) l.s l.n l.initial.next.at (l.n - l.counter) l.next.at
