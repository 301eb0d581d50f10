-- The loop of `validate_findings::validate_chunk_lua54`. The invariant: the first k findings are written, and the position stands for the others.
use mathlib.Core.Path.{◌≡◌}
use Prim.Native.Nat.{◌≤◌}
use Rattle.validate_rules.specs.Findings.{MAX-DIAGNOSTICS}
use Rattle.validate_search.specs.Inner.Position.{out_of}
use Rattle.validate_plan.specs.Inner.Plan.{written}
use Rattle.validate_plan.proofs.Steps.{After}
use Rattle.validate_findings.proofs.validate_chunk_lua54.Given as goal

abbrev pub invariant-loop-k : goal.invariant-loop-k
invariant-loop-k l =
    let all = out_of l.limits l.chunk MAX-DIAGNOSTICS l.initial.p in
    (l.k ≤ l.plan.count) × (l.findings ≡ written all l.k l.initial.findings) × After all l.k (out_of l.limits l.chunk MAX-DIAGNOSTICS l.p)
