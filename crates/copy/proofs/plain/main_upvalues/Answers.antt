-- `copy::plain::main_upvalues` meets its contract (`MainUpvalues.antt`). Assumes nothing.
use mathlib.Core.Path.{sym, ◌∙◌}
use Rattle.copy.proofs.MainUpvalues.{main-counted, main-refused}
use Rattle.copy.proofs.plain.main_upvalues.Goals as goal

pub returns-in-Err : goal.returns-in-Err
returns-in-Err c =
    let a = c.args in
    λ x is. absurd (main-refused a.s.now a.limits x is _ (sym c.in-Err.is ∙ c.pass_head-begins.ensures.value))

pub returns-in-Ok : goal.returns-in-Ok
returns-in-Ok c =
    let a = c.args in
    λ x is. main-counted a.s.now a.limits x is c.in-Ok.counts _ (sym c.in-Ok.is ∙ c.pass_head-begins.ensures.value)
