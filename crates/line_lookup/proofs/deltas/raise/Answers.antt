-- `line_lookup::deltas::raise` meets its contract: by the test (`Sums.antt`). Assumes nothing.
use Rattle.line_lookup.proofs.Sums.{raised_up, natural, raised-same}
use Rattle.line_lookup.proofs.deltas.raise.Goals as goal

pub returns-then-line-lt0 : goal.returns-then-line-lt0
returns-then-line-lt0 c = raised_up c.args.line c.ranges.line c.if-line-lt0.true

pub overflow_cast-result : goal.overflow_cast-result
overflow_cast-result c = natural c.args.line c.ranges.line c.if-line-lt0.false

pub returns : goal.returns
returns c = raised-same c.args.line c.ranges.line c.if-line-lt0.false
