-- `line_anchors::seek` meets its contract: by the case and the test. Assumes nothing.
use borrow.Author.Tests.{eq-eqb, ne_eqb}
use Rattle.line_anchors.proofs.seek.Goals as goal

pub returns-then-before-eq0 : goal.returns-then-before-eq0
returns-then-before-eq0 c = rw (c.in-Ahead.is, eq-eqb c.in-Ahead.before 0 c.if-before-eq0.true)

pub returns-else-before-eq0 : goal.returns-else-before-eq0
returns-else-before-eq0 c = rw (c.in-Ahead.is, ne_eqb c.in-Ahead.before 0 c.if-before-eq0.false)
