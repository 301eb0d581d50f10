-- `line_batch::walk::take_up` meets its contract. The invariant: what the anchors from the start on give those left give (`Taking.antt`). Assumes nothing.
use mathlib.Core.Path.{refl, sym, ◌∙◌, ap}
use native.Mathlib.Omega.{arith}
use Rattle.line_batch.specs.Inner.Anchors.{next_list}
use Rattle.line_batch.proofs.Taking.{none_left, stays, moves}
use Rattle.line_batch.proofs.walk.take_up.Goals as goal

pub loop-walk-init : goal.loop-walk-init
loop-walk-init c = (refl, λ h. h)

pub returns-in-None : goal.returns-in-None
returns-in-None c = let a = c.args in
    (sym (none_left a.s.now a.pc c.loop-walk.walk (c.next_anchor-next.ensures ∙ ap (next_list a.s.now) c.in-None.is)) ∙ c.loop-walk.invariant.0, c.loop-walk.invariant.1)

pub returns-then-pc-anchor : goal.returns-then-pc-anchor
returns-then-pc-anchor c = let a = c.args in
    (sym (stays a.s.now a.pc c.loop-walk.walk _ c.in-Some.behind (c.next_anchor-next.ensures ∙ ap (next_list a.s.now) c.in-Some.is) c.if-pc-anchor.true) ∙ c.loop-walk.invariant.0, c.loop-walk.invariant.1)

pub loop-walk-smaller : goal.loop-walk-smaller
loop-walk-smaller c = rw (c.next_anchor-next.ensures, c.in-Some.is) (omega arith)

pub loop-walk-preserved : goal.loop-walk-preserved
loop-walk-preserved c = let a = c.args in
    (sym (moves a.s.now a.pc c.loop-walk.walk _ c.in-Some.behind (c.next_anchor-next.ensures ∙ ap (next_list a.s.now) c.in-Some.is) c.if-pc-anchor.false) ∙ c.loop-walk.invariant.0, λ h. omega arith)
