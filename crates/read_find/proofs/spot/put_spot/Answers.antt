-- `read_find::spot::put_spot` meets its contract. Assumes nothing.
use borrow.Author.Tests.{eq-eqb, ne_eqb}
use Rattle.read_find.proofs.spot.put_spot.Goals as goal

pub returns-then-wanted-from : goal.returns-then-wanted-from
returns-then-wanted-from c = rw (eq-eqb _ _ c.if-wanted-from.true)

pub returns-else-wanted-from : goal.returns-else-wanted-from
returns-else-wanted-from c = rw (ne_eqb _ _ c.if-wanted-from.false)
