-- `strict::judge` meets its contract: by what stands before main and what a walk over the functions showed (`Opened.antt`). Assumes nothing.
use Rattle.std.proofs.lemmas.Result.{err_from_is_err_and}
use mathlib.Core.Path.{refl, sym, ◌∙◌}
use Rattle.format.specs.GrammarChunk.{outermost}
use Rattle.strict.proofs.Opened.{opening_refused, functions-refused, functions-passed}
use Rattle.strict.proofs.judge.Goals as goal

pub returns-in_err-first : goal.returns-in_err-first
returns-in_err-first c =
    let a = c.args in
    let p = err_from_is_err_and c.from_residual.result c.from_residual.ensures.1 in
    rw (p.1, p.2) (sym c.in_err-first.was ∙ opening_refused a.limits a.s.now c.pass_opening.ensures c.in_err-first.was)

pub pass_main-requires : goal.pass_main-requires
pass_main-requires c = c.requires

pub returns-in_err-passed : goal.returns-in_err-passed
returns-in_err-passed c =
    let a = c.args in
    let p = err_from_is_err_and c.from_residual-in_err-passed.result c.from_residual-in_err-passed.ensures.1 in
    rw (p.1, p.2)
    (functions-refused a.limits a.s.now c.pass_opening.ensures c.in_ok-first.was _
    (sym c.in_err-passed.was ∙ c.pass_main.ensures outermost refl refl refl))

pub returns : goal.returns
returns c =
    let a = c.args in
    functions-passed a.limits a.s.now c.pass_opening.ensures c.in_ok-first.was _ (sym c.in_ok-passed.was ∙ c.pass_main.ensures outermost refl refl refl)
