-- `text_print::put` meets its contract. Assumes nothing.
use Rattle.std.proofs.Common.{arith}
use Rattle.text_print.proofs.GivenLaws.{filled_full, filled_given, printed_err}
use Rattle.text_print.proofs.put.Goals as goal

pub returns-in_err-write_out-clause-given : goal.returns-in_err-write_out-clause-given
returns-in_err-write_out-clause-given g c =
    printed_err _ _ _ _ c.from_residual.result c.from_residual.ensures.0
    (filled_full _ _ c.args.out.now c.args.used c.args.byte (omega arith) (omega arith) c.in_err-write_out.ensures)

pub returns-clause-given : goal.returns-clause-given
returns-clause-given g c = filled_given _ _ c.args.out.now c.args.used c.args.byte
    (omega arith) c.in_ok-write_out.ensures
