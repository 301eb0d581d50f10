-- `line_batch::judge::never_falls` meets its contract. The invariant: all pcs never fall exactly where those left do not, from the last one on (`Judging.antt`). Assumes nothing.
use native.Mathlib.Omega.{arith}
use Rattle.line_batch.proofs.Judging.{falls_first, falls_here, falls_later, falls_nowhere}
use Rattle.line_batch.proofs.judge.never_falls.Goals as goal

pub loop-pc-init : goal.loop-pc-init
loop-pc-init c = falls_first c.args.pcs.now

pub returns-then-pc-last : goal.returns-then-pc-last
returns-then-pc-last c = let l = c.loop-pc in
    falls_here c.args.pcs.now l.last l.pc-index l.invariant (omega arith) c.if-pc-last.true

pub loop-pc-preserved : goal.loop-pc-preserved
loop-pc-preserved c = let l = c.loop-pc in
    falls_later c.args.pcs.now l.last l.pc-index l.invariant (omega arith) c.if-pc-last.false

pub returns : goal.returns
returns c = let l = c.loop-pc in falls_nowhere c.args.pcs.now l.last l.pc-index l.invariant (omega arith)
