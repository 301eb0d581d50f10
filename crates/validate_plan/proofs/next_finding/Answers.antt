-- `validate_plan::next_finding` meets its contract: a step that has no finding leaves none. Assumes nothing.
use mathlib.Core.Path.{ap}
use native.Mathlib.Omega.{arith}
use lib.ListN.{length}
use Rattle.validate_rules.specs.Findings.{Listing}
use Rattle.validate_plan.proofs.next_finding.Goals as goal

pub unreachable-requires : goal.unreachable-requires
unreachable-requires c = omega (arith, c.requires.1, ap (λ (x : Listing). length x.findings) c.in_default.ensures)
