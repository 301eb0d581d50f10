-- The loop of `validate_verdict::tally::tally`. The invariant: what is counted of all findings is what was counted and what is counted of the rest. The measure is how many are left.
use mathlib.Core.Path.{◌≡◌}
use lib.ListN.{length}
use Rattle.validate_search.specs.Inner.Position.{out_of}
use Rattle.validate_verdict.specs.Inner.Totals.{and_tally, tallied}
use Rattle.validate_verdict.proofs.tally.tally.Given as goal

abbrev pub invariant-loop-finding : goal.invariant-loop-finding
invariant-loop-finding l = tallied (out_of l.limits l.s l.max l.initial.p) ≡ and_tally l.count l.errors (out_of l.limits l.s l.max l.p)

abbrev pub decreases-loop-finding : goal.decreases-loop-finding
decreases-loop-finding l = length (out_of l.limits l.s l.max l.p).findings
