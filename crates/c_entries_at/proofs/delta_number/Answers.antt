-- `c_entries_at::delta_number` meets its contract. Assumes nothing.
use Rattle.c_entries_at.proofs.Arrays.{delta_up, delta_down}
use Rattle.c_entries_at.proofs.delta_number.Goals as goal

pub returns-then-byte-lt128 : goal.returns-then-byte-lt128
returns-then-byte-lt128 c = delta_up c.args.byte c.if-byte-lt128.true

pub returns : goal.returns
returns c = delta_down c.args.byte c.if-byte-lt128.false c.ranges.byte.fits
