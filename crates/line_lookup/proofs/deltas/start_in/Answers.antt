-- `line_lookup::deltas::start_in` meets its contract: by the test. Assumes nothing.
use borrow.Author.Tests.{lt-ltb, le-ltb}
use Rattle.line_anchors.proofs.Tests.{picked, other}
use Rattle.line_lookup.proofs.deltas.start_in.Goals as goal

pub returns-then-base-reset : goal.returns-then-base-reset
returns-then-base-reset c = let z = c.args.scan in picked z.reset z.base (lt-ltb z.base.pc z.reset.pc c.if-base-reset.true)

pub returns : goal.returns
returns c = let z = c.args.scan in other z.reset z.base (le-ltb z.base.pc z.reset.pc c.if-base-reset.false)
