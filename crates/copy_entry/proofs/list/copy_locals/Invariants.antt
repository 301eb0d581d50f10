-- `copy_entry::list::copy_locals` meets its contract. The invariant: what all entries show those left show (`Turns.antt` of read_entry), and whoever puts those left has put them all (`Lists.antt`). Assumes nothing.
use Prim.Native.Nat.{◌-◌}
use Rattle.format.specs.ReadChunk.{local}
use Rattle.format.specs.Copy.{local_bytes}
use Rattle.read_entry.proofs.Turns.{Rest}
use Rattle.copy_entry.proofs.Lists.{Goes}
use Rattle.copy_entry.proofs.list.copy_locals.Given as goal

abbrev pub invariant-loop : goal.invariant-loop
invariant-loop l =
    Rest (local l.max_string_bytes) l.s l.count l.initial.passed.next.at (l.count - l.counter) l.passed.next.at
    × (Goes (local l.max_string_bytes) local_bytes l.s l.count l.initial.passed.next.at l.initial.passed.behind l.initial.out (l.count - l.counter) l.passed.next.at l.passed.behind l.out)
