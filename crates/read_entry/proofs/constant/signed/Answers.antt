-- `read_entry::constant::signed` meets its contract (`Signed.antt`). Assumes nothing.
use native.Mathlib.Omega.{arith}
use mir.Syntax.{w64}
use Rattle.read_entry.proofs.Signed.{negative_fits, negative_is}
use Rattle.read_entry.proofs.constant.signed.Goals as goal

pub overflow_sub-result-2 : goal.overflow_sub-result-2
overflow_sub-result-2 c = let f = c.ranges.bits.fits in let h = c.if-bits-lt9223372036854775808.false in negative_fits w64 18446744073709551615 c.args.bits (omega arith) (omega arith) (omega arith)

pub returns : goal.returns
returns c = let f = c.ranges.bits.fits in let h = c.if-bits-lt9223372036854775808.false in negative_is w64 18446744073709551615 c.args.bits (omega arith) (omega arith) (omega arith)
