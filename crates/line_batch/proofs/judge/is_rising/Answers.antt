-- `line_batch::judge::is_rising` meets its contract: by the tests. Assumes nothing.
use Rattle.line_batch.proofs.judge.is_rising.Goals as goal

pub returns-then-seen-2 : goal.returns-then-seen-2
returns-then-seen-2 c = rw (c.if-seen.true, c.if-seen-2.true)
