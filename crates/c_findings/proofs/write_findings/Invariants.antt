-- The loop of `c_findings::write_findings`. The invariant: the numbers of the first k findings are written, and the position stands for the others.
use mathlib.Core.Path.{◌≡◌}
use Prim.Native.Nat.{◌≤◌}
use lib.ListN.{take}
use Rattle.slice.specs.Inner.Splice.{splice}
use Rattle.validate_rules.specs.Findings.{MAX-DIAGNOSTICS}
use Rattle.validate_search.specs.Inner.Position.{out_of}
use Rattle.validate_plan.proofs.Steps.{After}
use Rattle.c_findings.specs.FindingNumbers.{list_numbers}
use Rattle.c_findings.proofs.write_findings.Given as goal

abbrev pub invariant-loop-k : goal.invariant-loop-k
invariant-loop-k l =
    let all = out_of l.limits l.chunk MAX-DIAGNOSTICS l.initial.p in
    (l.k ≤ l.count) × (l.list ≡ splice 0 (list_numbers (take l.k all.findings)) l.initial.list) × After all l.k (out_of l.limits l.chunk MAX-DIAGNOSTICS l.p)
