-- `read_header::before_format` meets its contract (`FixedParts.antt`). Assumes nothing.
use borrow.Author.Rules.{rules}
use Rattle.read_header.proofs.FixedParts.{before}
use Rattle.read_header.proofs.before_format.Goals as goal

pub returns : goal.returns
returns c = let a = c.args in before a.s.now a.cursor.at c.and_expect-read.ensures c.and_expect.ensures
