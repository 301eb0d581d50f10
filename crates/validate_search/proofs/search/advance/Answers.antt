-- `validate_search::search::advance` meets its contract: what waits; or there are enough; or the next. Assumes nothing.
use native.Mathlib.Omega.{arith}
use Rattle.validate_search.specs.Inner.Position.{out_of}
use Rattle.validate_search.proofs.Laws.{limited_full}
use Rattle.validate_search.proofs.search.advance.Goals as goal

pub returns-then-max-p : goal.returns-then-max-p
unfolding out_of
returns-then-max-p c = let a = c.args in rw (c.in_default.is, limited_full a.max a.p.found _ (omega (arith, c.if-max-p.true)), c.stops.ensures)

pub returns-in-Some : goal.returns-in-Some
unfolding out_of
returns-in-Some c = rw c.in-Some.is

pub returns : goal.returns
unfolding out_of
returns c = rw c.in_default.is c.search.ensures
