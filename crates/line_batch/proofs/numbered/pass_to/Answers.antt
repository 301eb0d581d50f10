-- `line_batch::numbered::pass_to` meets its contract. The invariant: where all anchors lead those left lead (`Passing.antt`). Assumes nothing.
use mathlib.Core.Path.{refl, sym, ◌∙◌, ap}
use native.Mathlib.Omega.{arith}
use Rattle.line_batch.specs.Inner.Anchors.{next_list}
use Rattle.line_batch.proofs.Passing.{none_left, reached, goes_on_lem}
use Rattle.line_batch.proofs.numbered.pass_to.Goals as goal

pub loop-z-init : goal.loop-z-init
loop-z-init c = refl

pub returns-in-None : goal.returns-in-None
returns-in-None c = let a = c.args in
    sym (none_left a.s.now a.pc c.loop-z.z (c.next_anchor-next.ensures ∙ ap (next_list a.s.now) c.in-None.is)) ∙ c.loop-z.invariant

pub loop-z-smaller : goal.loop-z-smaller
loop-z-smaller c = rw (c.next_anchor-next.ensures, c.in-Some.is) (omega arith)

pub loop-z-preserved : goal.loop-z-preserved
loop-z-preserved c = let a = c.args in
    sym (goes_on_lem a.s.now a.pc c.loop-z.z _ c.in-Some.behind (c.next_anchor-next.ensures ∙ ap (next_list a.s.now) c.in-Some.is) c.loop-z-test.true) ∙ c.loop-z.invariant

pub returns : goal.returns
returns c = let a = c.args in
    sym (reached a.s.now a.pc c.loop-z.z c.loop-z-test.false) ∙ c.loop-z.invariant
