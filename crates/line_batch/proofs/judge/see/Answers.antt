-- `line_batch::judge::see` meets its contract: field by field. Assumes nothing.
use Rattle.line_batch.proofs.judge.see.Goals as goal

pub returns : goal.returns
returns c = rw (c.is_rising.ensures, c.or_large.ensures)
