-- `c_boundary::signed::complement_of` meets its contract (`Complement.antt`). Assumes nothing.
use Rattle.c_boundary.proofs.Complement.{turned_fits, turned_natural, turned_most, turned_bits, kept_natural, kept-bits}
use Rattle.c_boundary.proofs.signed.complement_of.Goals as goal

pub overflow_sub-result : goal.overflow_sub-result
overflow_sub-result c = turned_fits c.args.z c.ranges.z c.if-z-lt0.true

pub overflow_cast-result : goal.overflow_cast-result
overflow_cast-result c = turned_natural c.args.z c.ranges.z c.if-z-lt0.true

pub overflow_sub-result-then-z-lt0 : goal.overflow_sub-result-then-z-lt0
overflow_sub-result-then-z-lt0 c = turned_most c.args.z c.ranges.z c.if-z-lt0.true

pub returns-then-z-lt0 : goal.returns-then-z-lt0
returns-then-z-lt0 c = turned_bits c.args.z c.ranges.z c.if-z-lt0.true

pub overflow_cast-result-2 : goal.overflow_cast-result-2
overflow_cast-result-2 c = kept_natural c.args.z c.ranges.z c.if-z-lt0.false

pub returns : goal.returns
returns c = kept-bits c.args.z c.ranges.z c.if-z-lt0.false
