-- `chunklist_lines::labelled` meets its contract: what the calls say, put together. Assumes nothing.
use Rattle.std.proofs.Common.{◌++◌, take}
use Rattle.text_print.specs.Output.{waiting}
use Rattle.text_print.proofs.GivenLaws.{begins, put_next, stops, ends, printed_err}
use Rattle.chunklist_lines.specs.Lines.{decimal}
use Rattle.chunklist_lines.proofs.Laws.{then_ok, digits_put_ok, decimal_given}
use Rattle.chunklist_lines.proofs.labelled.Goals as goal

pub returns-in_err-at-clause-given : goal.returns-in_err-at-clause-given
returns-in_err-at-clause-given g c =
    let a = c.args in
    printed_err _ _ _ _ c.from_residual.result c.from_residual.ensures.0
    (stops _ _ _ _ (take a.used a.out.now) a.label.now (decimal a.n)
    (begins (g.W.Write.contents a.to.now) _) c.in_err-at.ensures.given)

pub returns-clause-result_after : goal.returns-clause-result_after
returns-clause-result_after g c =
    let a = c.args in
    then_ok a.label.now (decimal a.n)
    (waiting a.out.now a.used) c.decimal.new.out c.decimal.result c.in_ok-at.ensures.result_after
    (digits_put_ok a.n _ c.decimal.new.out c.decimal.result c.decimal.ensures.digits)

pub returns-clause-given : goal.returns-clause-given
returns-clause-given g c =
    let a = c.args in
    let waits = take a.used a.out.now in
    ends _ (g.W.Write.contents c.text.new.to) _ _ (take c.in_ok-at.at c.text.new.out)
    (decimal a.n) c.decimal.new.out c.decimal.result
    (put_next _ _ _ _ waits a.label.now (decimal a.n)
    (begins (g.W.Write.contents a.to.now) (waits ++ (a.label.now ++ decimal a.n))) _ c.in_ok-at.ensures.given)
    (decimal_given _ _ (take c.in_ok-at.at c.text.new.out) c.decimal.new.out a.n c.decimal.result c.decimal.ensures.given)
