-- `strict_walk::parts::pass_head` meets its contract: at each return the calls say which case of the reader holds (`HeadAnswers.antt`). Assumes nothing.
use Rattle.std.proofs.lemmas.Result.{err_from_is_err_and}
use mathlib.Core.Path.{sym, ◌∙◌}
use Rattle.strict_walk.proofs.HeadAnswers.{front-refused, code-refused, lists-refused, protos-refused, head_read}
use Rattle.strict_walk.proofs.parts.pass_head.Goals as goal

pub returns-in_err-behind : goal.returns-in_err-behind
returns-in_err-behind c =
    let a = c.args in
    let p = err_from_is_err_and c.from_residual.result c.from_residual.ensures.1 in
    rw (p.1, p.2) (front-refused a.s.now a.limits a.before a.cursor.at _ (sym c.in_err-behind.was ∙ c.pass_front.ensures))

pub returns-in_err-instructions : goal.returns-in_err-instructions
returns-in_err-instructions c =
    let a = c.args in
    let p = err_from_is_err_and c.from_residual-in_err-instructions.result c.from_residual-in_err-instructions.ensures.1 in
    rw (p.1, p.2)
    (code-refused a.s.now a.limits a.before a.cursor.at
    _ (sym c.in_ok-behind.was ∙ c.pass_front.ensures)
    _ (sym c.in_err-instructions.was ∙ c.pass_code.ensures))

pub returns-in_err-last : goal.returns-in_err-last
returns-in_err-last c =
    let a = c.args in
    let p = err_from_is_err_and c.from_residual-in_err-last.result c.from_residual-in_err-last.ensures.1 in
    rw (p.1, p.2)
    (lists-refused a.s.now a.limits a.before a.cursor.at
    _ (sym c.in_ok-behind.was ∙ c.pass_front.ensures)
    _ _ (sym c.in_ok-instructions.was ∙ c.pass_code.ensures)
    _ (sym c.in_err-last.was ∙ c.pass_lists.ensures))

pub returns-in_err-protos : goal.returns-in_err-protos
returns-in_err-protos c =
    let a = c.args in
    let p = err_from_is_err_and c.from_residual-in_err-protos.result c.from_residual-in_err-protos.ensures.1 in
    rw (p.1, p.2)
    (protos-refused a.s.now a.limits a.before a.cursor.at
    _ (sym c.in_ok-behind.was ∙ c.pass_front.ensures)
    _ _ (sym c.in_ok-instructions.was ∙ c.pass_code.ensures)
    _ (sym c.in_ok-last.was ∙ c.pass_lists.ensures)
    _ (sym c.in_err-protos.was ∙ c.int_up_to.ensures))

pub returns : goal.returns
returns c =
    let a = c.args in
    head_read a.s.now a.limits a.before a.cursor.at
    _ (sym c.in_ok-behind.was ∙ c.pass_front.ensures)
    _ _ (sym c.in_ok-instructions.was ∙ c.pass_code.ensures)
    _ (sym c.in_ok-last.was ∙ c.pass_lists.ensures)
    _ _ (sym c.in_ok-protos.was ∙ c.int_up_to.ensures)
