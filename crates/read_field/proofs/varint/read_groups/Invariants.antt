-- `read_field::varint::read_groups` meets its contract. The invariant: the whole number is what is read from here on, behind the groups so far (`format`'s `Steps`).
use mathlib.Core.Path.{◌≡◌}
use Prim.Native.Nat.{◌≤◌}
use Rattle.std.specs.Prelude.{max}
use lib.ListN.{length, drop}
use Rattle.format.specs.ReadFields.{groups}
use Rattle.read_field.proofs.varint.read_groups.Given as goal

abbrev pub invariant-loop-i : goal.invariant-loop-i
invariant-loop-i l = (groups 0 l.cursor.at (drop l.cursor.at l.s) ≡ groups l.value l.i (drop l.i l.s)) × (l.i ≤ max l.cursor.at (length l.s))
