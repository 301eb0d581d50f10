-- `line_anchors::scan_anchors` meets its contract. The invariant: what all anchors give those left give (`Turns.antt`). Assumes nothing.
use mathlib.Core.Path.{sym, ◌∙◌}
use Prim.Native.Nat.{◌-◌}
use native.Mathlib.Omega.{arith}
use lib.ListN.{drop}
use Rattle.format.specs.ReadChunk.{anchor}
use Rattle.read_entry.proofs.DebugInfo.{anchor-ok}
use Rattle.line_anchors.proofs.Turns.{begins, ends, goes_on_lem}
use Rattle.line_anchors.proofs.scan_anchors.Goals as goal

pub loop-init : goal.loop-init
loop-init c = let a = c.args in begins a.deltas.now a.pc a.s.now _ a.n a.cursor.at (omega arith)

pub loop-preserved : goal.loop-preserved
loop-preserved c = let a = c.args in
    let l = c.loop in
    goes_on_lem a.deltas.now a.pc a.s.now l.scan (a.n - l.counter) l.next.at l.invariant (omega arith) (anchor-ok (anchor l.next.at (drop l.next.at a.s.now)) _ _ (sym c.in_ok-value.was ∙ c.read_anchor.ensures)) c.pass-scan.ensures

pub returns : goal.returns
returns c = let a = c.args in
    let l = c.loop in
    ends a.deltas.now a.pc a.s.now l.scan (a.n - l.counter) l.next.at l.invariant (omega arith)
