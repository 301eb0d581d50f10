-- `line_anchors::or_large` meets its contract: by the test. Assumes nothing.
use Rattle.line_anchors.proofs.or_large.Goals as goal

pub returns : goal.returns
returns c = rw c.if-large.false
