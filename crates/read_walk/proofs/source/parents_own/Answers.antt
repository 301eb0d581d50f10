-- `read_walk::source::parents_own` meets its contract (`Sources.antt`). Assumes nothing.
use Rattle.read_walk.proofs.Sources.{none_outer, some_outer}
use Rattle.read_walk.proofs.source.parents_own.Goals as goal

pub returns-in-None : goal.returns-in-None
returns-in-None c = let a = c.args in rw c.in-None.is (none_outer a.s.now a.spelt)

pub returns-in-Some : goal.returns-in-Some
returns-in-Some c = let a = c.args in rw c.in-Some.is (some_outer a.s.now a.spelt _ c.same_string.ensures)
