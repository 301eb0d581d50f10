-- `c_findings::write_findings` meets its contract: a step has the next finding, and its numbers are written behind the others. Assumes nothing.
use mathlib.Core.Path.{◌∙◌}
use native.Mathlib.Omega.{arith}
use Rattle.validate_rules.specs.Findings.{MAX-DIAGNOSTICS}
use Rattle.validate_search.specs.Inner.Position.{out_of}
use Rattle.validate_plan.proofs.Steps.{at_first, left_over, step_found}
use Rattle.c_findings.proofs.Numbered.{none-put, next-put}
use Rattle.c_findings.proofs.write_findings.Goals as goal

pub loop-k-init : goal.loop-k-init
loop-k-init c = let a = c.args in
    (omega arith, none-put (out_of a.limits a.chunk.now MAX-DIAGNOSTICS a.start).findings a.list.now, at_first _)

pub loop-k-preserved : goal.loop-k-preserved
loop-k-preserved c =
    let a = c.args in
    let all = out_of a.limits a.chunk.now MAX-DIAGNOSTICS a.start in
    let found = step_found all c.loop-k.k _ c.loop-k.invariant.2 a.limits a.chunk.now MAX-DIAGNOSTICS _ _ c.next_finding.ensures in
    (omega arith, c.put_finding.ensures ∙ next-put all.findings a.list.now c.loop-k.k _ _ (omega (arith, c.requires.1)) (omega (arith, c.requires.0)) found.0 c.loop-k.invariant.1, found.1)

pub next_finding-requires : goal.next_finding-requires
next_finding-requires c =
    let a = c.args in
    let all = out_of a.limits a.chunk.now MAX-DIAGNOSTICS a.start in
    (c.requires.2 (omega arith), omega (arith, left_over all c.loop-k.k _ c.loop-k.invariant.2, c.requires.1))
