-- `slice::lent::copy_bytes` meets its contract: a byte more is written. Assumes nothing.
use mathlib.Core.Path.{refl, sym}
use borrow.Author.Rules.{rules}
use Rattle.slice.proofs.Splices.{splice-none, copied_next}
use Rattle.slice.proofs.lent.copy_bytes.Goals as goal

pub loop-i-init : goal.loop-i-init
loop-i-init c = (refl, sym (splice-none _ _))

pub loop-i-preserved : goal.loop-i-preserved
loop-i-preserved c =
    let a = c.args in
    (search rules, copied_next a.s.now a.start _ _ a.len a.out.now _ c.requires.0 c.requires.1 c.loop-i-test.true c.loop-i.invariant.1)
