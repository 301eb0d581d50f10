-- `line_lookup::deltas::add_delta` meets its contract: by the tests (`Sums.antt`). Assumes nothing.
use Rattle.line_lookup.proofs.Sums.{left_alone, upward, downward, sum_fits, sum_added}
use Rattle.line_lookup.proofs.deltas.add_delta.Goals as goal

pub returns-then-delta-eq128 : goal.returns-then-delta-eq128
returns-then-delta-eq128 c = left_alone c.args.line c.ranges.line c.args.delta c.if-delta-eq128.true

pub overflow_add-result : goal.overflow_add-result
overflow_add-result c = sum_fits c.args.line c.ranges.line c.args.delta c.requires (upward c.args.line c.ranges.line c.args.delta c.if-delta-lt128.true)

pub returns-then-delta-lt128 : goal.returns-then-delta-lt128
returns-then-delta-lt128 c = sum_added c.args.line c.ranges.line c.args.delta c.requires (upward c.args.line c.ranges.line c.args.delta c.if-delta-lt128.true) c.if-delta-eq128.false

pub overflow_sub-result-2 : goal.overflow_sub-result-2
overflow_sub-result-2 c = sum_fits c.args.line c.ranges.line c.args.delta c.requires (downward c.args.line c.ranges.line c.args.delta c.if-delta-lt128.false c.ranges.delta.fits)

pub returns : goal.returns
returns c = sum_added c.args.line c.ranges.line c.args.delta c.requires (downward c.args.line c.ranges.line c.args.delta c.if-delta-lt128.false c.ranges.delta.fits) c.if-delta-eq128.false
