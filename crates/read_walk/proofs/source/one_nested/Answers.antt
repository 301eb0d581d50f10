-- `read_walk::source::one_nested` meets its contract: by whether the number is 0. Assumes nothing.
use borrow.Author.Tests.{ne_eqb}
use Rattle.read_walk.proofs.source.one_nested.Goals as goal

pub returns-then-number-eq0 : goal.returns-then-number-eq0
returns-then-number-eq0 c = rw c.if-number-eq0.true

pub returns : goal.returns
returns c = rw (ne_eqb _ _ c.if-number-eq0.false)
