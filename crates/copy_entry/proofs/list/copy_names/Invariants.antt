-- `copy_entry::list::copy_names` meets its contract. The invariant: what all entries show those left show (`Turns.antt` of read_entry), and whoever puts those left has put them all (`Lists.antt`). Assumes nothing.
use Prim.Native.Nat.{◌-◌}
use Rattle.format.specs.ReadFields.{string}
use Rattle.format.specs.Copy.{option_bytes}
use Rattle.read_entry.proofs.Turns.{Rest}
use Rattle.copy_entry.proofs.Lists.{Goes}
use Rattle.copy_entry.proofs.list.copy_names.Given as goal

abbrev pub invariant-loop : goal.invariant-loop
invariant-loop l =
    Rest (string l.max_string_bytes) l.s l.count l.initial.passed.next.at (l.count - l.counter) l.passed.next.at
    × (Goes (string l.max_string_bytes) option_bytes l.s l.count l.initial.passed.next.at l.initial.passed.behind l.initial.out (l.count - l.counter) l.passed.next.at l.passed.behind l.out)
