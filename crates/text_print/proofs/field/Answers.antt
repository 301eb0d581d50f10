-- `text_print::field` meets its contract: what the calls say, one behind the other. Assumes nothing.
use Rattle.std.proofs.Common.{◌++◌, take}
use Rattle.text_print.specs.Digits.{last_digits}
use Rattle.text_print.proofs.Powers.{some_digits}
use Rattle.text_print.proofs.GivenLaws.{begins, put_next, stops, ends, printed_err}
use Rattle.text_print.proofs.field.Goals as goal

pub returns-in_err-used-clause-given : goal.returns-in_err-used-clause-given
returns-in_err-used-clause-given g c =
    let a = c.args in
    let waits = take a.used a.out.now in
    let d = some_digits a.n in (
      d.0,
      d.1,
      printed_err _ _ _ _ c.from_residual.result c.from_residual.ensures.0
          (stops _ _ _ _ waits a.label.now (last_digits 10 d.0 a.n)
          (begins (g.W.Write.contents a.to.now) _) c.in_err-used.ensures.given),
    )

pub returns-clause-given : goal.returns-clause-given
returns-clause-given g c =
    let a = c.args in
    let waits = take a.used a.out.now in
    let d = c.decimal.ensures.given in
    let digits = last_digits 10 d.0 a.n in (
      d.0,
      d.1,
      ends _ (g.W.Write.contents c.text.new.to) _ _
          (take c.in_ok-used.used c.text.new.out) digits c.decimal.new.out c.decimal.result
          (put_next _ _ _ _ waits a.label.now digits
          (begins (g.W.Write.contents a.to.now) (waits ++ (a.label.now ++ digits))) _ c.in_ok-used.ensures.given)
          d.2,
    )
