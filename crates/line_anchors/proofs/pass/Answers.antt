-- `line_anchors::pass` meets its contract: field by field. Assumes nothing.
use Rattle.line_anchors.proofs.pass.Goals as goal

pub returns : goal.returns
returns c = rw (c.seek.ensures, c.reset_by.ensures, c.taken.ensures, c.or_large.ensures, c.still_taking-taking.ensures)
