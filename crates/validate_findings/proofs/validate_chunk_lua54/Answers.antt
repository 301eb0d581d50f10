-- `validate_findings::validate_chunk_lua54` meets its contract: a step has the next finding, and it is written behind the others. Assumes nothing.
use native.Mathlib.Omega.{arith}
use Rattle.validate_rules.specs.Findings.{MAX-DIAGNOSTICS}
use Rattle.validate_search.specs.Inner.Position.{out_of}
use Rattle.validate_plan.proofs.Steps.{at_first, left_over, step_found}
use Rattle.validate_findings.proofs.Filled.{written-zero, written_next}
use Rattle.validate_findings.proofs.validate_chunk_lua54.Goals as goal

pub loop-k-init : goal.loop-k-init
loop-k-init c = (omega arith, written-zero _ _, at_first _)

pub loop-k-preserved : goal.loop-k-preserved
loop-k-preserved c =
    let a = c.args in
    let plan = c.in_ok-plan in
    let all = out_of a.limits a.chunk.now MAX-DIAGNOSTICS plan.plan.start in
    let found = step_found all c.loop-k.k _ c.loop-k.invariant.2 a.limits a.chunk.now MAX-DIAGNOSTICS _ _ c.next_finding.ensures in
    (omega arith, rw c.loop-k.invariant.1 (written_next all a.findings.now c.loop-k.k _ (omega (arith, plan.ensures.there)) (omega (arith, plan.ensures.within)) found.0), found.1)

pub next_finding-requires : goal.next_finding-requires
next_finding-requires c =
    let a = c.args in
    let plan = c.in_ok-plan in
    let all = out_of a.limits a.chunk.now MAX-DIAGNOSTICS plan.plan.start in
    (plan.ensures.limited, omega (arith, left_over all c.loop-k.k _ c.loop-k.invariant.2, plan.ensures.there))
