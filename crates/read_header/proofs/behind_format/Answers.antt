-- `read_header::behind_format` meets its contract (`FixedParts.antt`). Assumes nothing.
use borrow.Author.Rules.{rules}
use Rattle.read_header.proofs.FixedParts.{behind}
use Rattle.read_header.proofs.behind_format.Goals as goal

pub returns : goal.returns
returns c =
    let a = c.args in
    behind a.s.now a.cursor.at
    c.and_expect-read.ensures
    c.and_expect-read-2.ensures
    c.and_expect-read-3.ensures
    c.and_expect-read-4.ensures
    c.and_expect-read-5.ensures
    c.and_expect.ensures
