-- `validate_verdict::tally::tally` meets its contract: what was counted is below the number of all, and those are few. Assumes nothing.
use mathlib.Core.Path.{ap}
use native.Mathlib.Omega.{arith}
use lib.ListN.{length}
use Rattle.validate_search.proofs.Few.{few_out}
use Rattle.validate_verdict.proofs.tally.tally.Goals as goal

pub overflow_add-count : goal.overflow_add-count
overflow_add-count c =
    let a = c.args in
    omega (
      arith,
      few_out a.limits a.s.now a.max c.start-p.result,
      ap (λ t. t.count) c.loop-finding.invariant,
      ap (λ l. length l.findings) (rw c.in-Found.is at c.advance.ensures),
    )
