-- `line_lookup::line::numbered` meets its contract: by the test. Assumes nothing.
use borrow.Author.Tests.{eq-eqb, ne_eqb}
use Rattle.line_anchors.specs.declared.Sought.TheVariants.{Ahead}
use Rattle.line_anchors.proofs.Tests.{picked, other}
use Rattle.line_lookup.proofs.line.numbered.Goals as goal

pub returns-then-anchors-instructions : goal.returns-then-anchors-instructions
returns-then-anchors-instructions c = let a = c.args in picked a.sought (Ahead 0) (eq-eqb a.anchors a.instructions c.if-anchors-instructions.true)

pub returns : goal.returns
returns c = let a = c.args in other a.sought (Ahead 0) (ne_eqb a.anchors a.instructions c.if-anchors-instructions.false)
