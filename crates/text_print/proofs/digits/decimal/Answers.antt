-- `text_print::digits::decimal` meets its contract: twenty digits hold a u64. Assumes nothing.
use native.Mathlib.Omega.{arith}
use Rattle.text_print.proofs.Powers.{digit_count_le}
use Rattle.text_print.proofs.digits.decimal.Goals as goal

pub write_digits-requires : goal.write_digits-requires
write_digits-requires c = omega (
  arith,
  digit_count_le 10 1 c.args.n c.digit_count-k.result 20 (omega arith) c.digit_count-k.ensures (omega arith)
      (omega arith),
)

pub returns-clause-bound : goal.returns-clause-bound
returns-clause-bound c = digit_count_le 10 1 c.args.n c.digit_count-k.result 20 (omega arith) c.digit_count-k.ensures
    (omega arith) (omega arith)
