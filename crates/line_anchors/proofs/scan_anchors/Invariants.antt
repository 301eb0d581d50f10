-- `line_anchors::scan_anchors` meets its contract. The invariant: what all anchors give those left give (`Turns.antt`). Assumes nothing.
use mathlib.Core.Path.{◌≡◌}
use Prim.Native.Nat.{◌-◌}
use Rattle.line_anchors.specs.Inner.Scan.{start_of}
use Rattle.line_anchors.proofs.Turns.{scan_from}
use Rattle.line_anchors.proofs.scan_anchors.Given as goal

abbrev pub invariant-loop : goal.invariant-loop
invariant-loop l = scan_from l.deltas l.pc l.s (start_of l.pc l.line_defined) l.n l.initial.next.at ≡ scan_from l.deltas l.pc l.s l.scan (l.n - l.counter) l.next.at
