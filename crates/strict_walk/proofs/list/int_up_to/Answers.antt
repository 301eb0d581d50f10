-- `strict_walk::list::int_up_to` meets its contract: by whether the int is read and within the limit (`Lists.antt`). Assumes nothing.
use native.Mathlib.Omega.{arith}
use Rattle.format_strict.proofs.ExactStrict.{exact_int}
use Rattle.strict_walk.proofs.Lists.{within_above, within_limit}
use Rattle.strict_walk.proofs.list.int_up_to.Goals as goal

pub returns-then-limit-value : goal.returns-then-limit-value
returns-then-limit-value c = let a = c.args in within_above exact_int (λ n. n) a.limit a.refusal a.s.now a.cursor.at c.read_int.ensures c.in_ok-value.was (omega arith)

pub returns : goal.returns
returns c = let a = c.args in within_limit exact_int (λ n. n) a.limit a.refusal a.s.now a.cursor.at c.read_int.ensures c.in_ok-value.was (omega arith)
