-- `line_anchors::reset_by` meets its contract: by the tests (`Tests.antt`). Assumes nothing.
use native.Mathlib.Omega.{arith}
use Rattle.line_anchors.proofs.Tests.{reset_beyond, reset_other, reset_before, reset_moved}
use Rattle.line_anchors.proofs.reset_by.Goals as goal

pub returns-then-pc-deltas : goal.returns-then-pc-deltas
returns-then-pc-deltas c = let a = c.args in reset_beyond a.deltas.now a.reset a.anchor c.if-pc-deltas.true

pub returns-then-deltas-pc : goal.returns-then-deltas-pc
returns-then-deltas-pc c = let a = c.args in let t = c.if-deltas-pc.true in reset_other a.deltas.now a.reset a.anchor (λ e. omega arith)

pub returns-then-behind-reset : goal.returns-then-behind-reset
returns-then-behind-reset c = let a = c.args in
    let is = c.if-deltas-pc.false in
    let t = c.if-behind-reset.true in
    reset_before a.deltas.now a.reset a.anchor (omega arith) (omega arith)

pub returns : goal.returns
returns c = let a = c.args in
    let here = c.if-deltas-pc.false in
    let t = c.if-behind-reset.false in
    reset_moved a.deltas.now a.reset a.anchor (omega arith) (omega arith)
