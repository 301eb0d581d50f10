-- `read_find::spot::source_below` meets its contract. Assumes nothing.
use Rattle.read_find.proofs.spot.source_below.Goals as goal

pub returns-then-named : goal.returns-then-named
returns-then-named c = rw c.if-named.true

pub returns-else-named : goal.returns-else-named
returns-else-named c = rw c.if-named.false
