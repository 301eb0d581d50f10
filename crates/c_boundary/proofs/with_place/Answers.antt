-- `c_boundary::with_place` meets its contract: by whether there is a place, and whether it is below 2^32. Assumes nothing.
use borrow.Author.Tests.{le-leb, lt-leb}
use Rattle.c_boundary.proofs.with_place.Goals as goal

pub returns-then-at-ge4294967296 : goal.returns-then-at-ge4294967296
returns-then-at-ge4294967296 c = rw (c.in-Some.is, le-leb _ _ c.if-at-ge4294967296.true)

pub returns-in-None : goal.returns-in-None
returns-in-None c = rw c.in-None.is

pub returns-else-at-ge4294967296 : goal.returns-else-at-ge4294967296
returns-else-at-ge4294967296 c = rw (c.in-Some.is, lt-leb _ _ c.if-at-ge4294967296.false)
