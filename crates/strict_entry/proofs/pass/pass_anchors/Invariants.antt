-- `strict_entry::pass::pass_anchors` meets its contract. The invariant: what all anchors show those left show (`Turns.antt`). Assumes nothing.
use Prim.Native.Nat.{◌-◌}
use Rattle.format_strict.specs.ReadStrict.{strict_anchor}
use Rattle.strict_entry.proofs.Turns.{Left}
use Rattle.strict_entry.proofs.pass.pass_anchors.Given as goal

abbrev pub invariant-loop : goal.invariant-loop
invariant-loop l = Left strict_anchor l.s l.n l.initial.next.at (l.n - l.counter) l.next.at
