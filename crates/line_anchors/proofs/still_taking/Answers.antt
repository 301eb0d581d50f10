-- `line_anchors::still_taking` meets its contract: by the test. Assumes nothing.
use Rattle.line_anchors.proofs.still_taking.Goals as goal

pub returns-then-taking : goal.returns-then-taking
returns-then-taking c = rw c.if-taking.true
