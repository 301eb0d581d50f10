-- `copy_entry::list::copy_constants` meets its contract. The invariant: what all entries show those left show (`Turns.antt` of read_entry), and whoever puts those left has put them all (`Lists.antt`). Assumes nothing.
use Prim.Native.Nat.{◌-◌}
use Rattle.format.specs.Form.{Below}
use Rattle.format.specs.ReadChunk.{constant}
use Rattle.format.specs.Copy.{constant_bytes}
use Rattle.read_entry.proofs.Turns.{Rest}
use Rattle.copy_entry.proofs.Lists.{Goes}
use Rattle.copy_entry.proofs.list.copy_constants.Given as goal

abbrev pub invariant-loop : goal.invariant-loop
invariant-loop l =
    Rest (constant l.max_string_bytes) l.s l.count l.initial.passed.next.at (l.count - l.counter) l.passed.next.at
    × (Below 256 l.s → Goes (constant l.max_string_bytes) constant_bytes l.s l.count l.initial.passed.next.at l.initial.passed.behind l.initial.out (l.count - l.counter) l.passed.next.at l.passed.behind l.out)
