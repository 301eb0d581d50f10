-- `copy_walk::walk::within` meets its contract. Assumes nothing.
use borrow.Author.Tests.{le-leb, lt-leb}
use Rattle.copy_walk.proofs.walk.within.Goals as goal

pub returns-then-n-limit : goal.returns-then-n-limit
returns-then-n-limit c = rw (le-leb _ _ c.if-n-limit.true)

pub returns-else-n-limit : goal.returns-else-n-limit
returns-else-n-limit c = rw (lt-leb _ _ c.if-n-limit.false)
