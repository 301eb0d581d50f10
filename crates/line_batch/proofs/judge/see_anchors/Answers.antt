-- `line_batch::judge::see_anchors` meets its contract. The invariant: what all anchors settle those left settle. Assumes nothing.
use mathlib.Core.Path.{sym, ◌∙◌, ap}
use native.Mathlib.Omega.{arith}
use Rattle.line_batch.specs.Inner.Anchors.{next_list}
use Rattle.line_batch.specs.Inner.Judged.{seen_of}
use Rattle.line_batch.proofs.judge.see_anchors.Goals as goal

pub loop-seen-init : goal.loop-seen-init
loop-seen-init c = rw c.or_large.ensures

pub returns-in-None : goal.returns-in-None
returns-in-None c = let l = c.loop-seen in
    let a = c.args in
    sym (l.invariant ∙ ap (seen_of l.seen) (c.next_anchor-next.ensures ∙ ap (next_list a.s.now) c.in-None.is))

pub loop-seen-smaller : goal.loop-seen-smaller
loop-seen-smaller c = let a = c.args in
    rw (c.next_anchor-next.ensures, c.in-Some.is) (omega arith)

pub loop-seen-preserved : goal.loop-seen-preserved
loop-seen-preserved c = let l = c.loop-seen in
    let a = c.args in
    l.invariant ∙ ap (seen_of l.seen) (c.next_anchor-next.ensures ∙ ap (next_list a.s.now) c.in-Some.is) ∙ rw c.see-seen.ensures
