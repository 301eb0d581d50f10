-- `line_lookup::deltas::add_deltas` meets its contract. The invariant: what all deltas add those left add, and each has moved the line by at most 128 (`Sums.antt`).
use mathlib.Core.Path.{◌≡◌}
use Prim.Native.Nat.{◌+◌, ◌*◌, ◌^◌, ◌≤◌}
use lib.ListN.{drop}
use lib.Signed.{mag}
use Rattle.line_lookup.specs.Inner.Scan.{summed}
use Rattle.line_lookup.proofs.deltas.add_deltas.Given as goal

abbrev pub invariant-loop-i : goal.invariant-loop-i
invariant-loop-i l = (summed l.line (drop l.from l.deltas) ≡ summed l.current_line (drop l.i l.deltas)) × (mag l.current_line ≤ 2 ^ 62 + 128 * l.i)
