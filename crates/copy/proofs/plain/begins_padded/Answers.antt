-- `copy::plain::begins_padded` meets its contract: the byte, where there is one. Assumes nothing.
use borrow.Author.Tests.{lt-ltb, le-ltb}
use Rattle.copy.proofs.plain.begins_padded.Goals as goal

pub returns-then-s-gt-MAIN_AT : goal.returns-then-s-gt-MAIN_AT
returns-then-s-gt-MAIN_AT c = rw (lt-ltb _ _ c.if-s-gt-MAIN_AT.true)

pub returns : goal.returns
returns c = rw (le-ltb _ _ c.if-s-gt-MAIN_AT.false)
