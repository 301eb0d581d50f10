-- `c_findings::list_findings` meets its contract: by what the writer leaves of the list (`Numbered.antt`). Assumes nothing.
use mathlib.Core.Path.{◌∙◌, ap}
use mathlib.Core.List.{[]}
use Rattle.format.specs.ReadChunk.{read}
use Rattle.c_findings.specs.FindingNumbers.{numbers_written}
use Rattle.c_findings.proofs.Numbered.{none-put, all-put}
use Rattle.c_findings.proofs.list_findings.Goals as goal

pub returns-in-Err-clause-list_after : goal.returns-in-Err-clause-list_after
returns-in-Err-clause-list_after c =
    let a = c.args in
    all-put [] a.list.now 0 (read c.limits_of-bounds.result a.chunk.now) _ c.in-Err.ensures.found (none-put [] a.list.now)
    ∙ ap (λ L. numbers_written a.list.now (read L a.chunk.now)) c.limits_of-bounds.ensures

pub returns-in-Ok-clause-list_after : goal.returns-in-Ok-clause-list_after
returns-in-Ok-clause-list_after c =
    let a = c.args in
    let plan = c.in-Ok in
    all-put _ a.list.now plan.plan.count (read c.limits_of-bounds.result a.chunk.now) _ plan.ensures.found c.write_findings.ensures
    ∙ ap (λ L. numbers_written a.list.now (read L a.chunk.now)) c.limits_of-bounds.ensures
