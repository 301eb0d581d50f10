-- `chunklist_lines::refusal_line` meets its contract: what the calls say, one behind the other. Assumes nothing.
use Rattle.std.proofs.Common.{[], ◌∷◌, ◌++◌, take}
use Rattle.text_print.specs.Output.{waiting}
use Rattle.text_print.proofs.GivenLaws.{begins, put_next, stops, ends, printed_err}
use Rattle.format.specs.Ascii.{ascii}
use Rattle.chunklist_lines.specs.Lines.{decimal, at_place}
use Rattle.chunklist_lines.proofs.Laws.{then_ok, line_of, line_is}
use Rattle.chunklist_lines.proofs.refusal_line.Goals as goal

pub returns-in_err-at-clause-given : goal.returns-in_err-at-clause-given
returns-in_err-at-clause-given g c =
    let a = c.args in
    let r = c.report_refusal-report.result in
    let waits = take a.used a.out.now in
    printed_err _ _ _ _ c.from_residual.result c.from_residual.ensures.0
    (rw (line_is a.why r c.report_refusal-report.ensures) at
    (stops _ _ _ _ waits (ascii "refused " ++ decimal r.number) (at_place r.place ++ (10 ∷ []))
    (begins (g.W.Write.contents a.to.now) (waits ++ line_of r)) c.in_err-at.ensures.given))

pub returns-in_err-at-2-clause-given : goal.returns-in_err-at-2-clause-given
returns-in_err-at-2-clause-given g c =
    let a = c.args in
    let r = c.report_refusal-report.result in
    let waits = take a.used a.out.now in
    let first = put_next _ _ _ _ waits (ascii "refused " ++ decimal r.number) (at_place r.place ++ (10 ∷ []))
    (begins (g.W.Write.contents a.to.now) (waits ++ line_of r)) _ c.in_ok-at.ensures.given in
    printed_err _ _ _ _ c.from_residual-in_err-at-2.result c.from_residual-in_err-at-2.ensures.0
    (rw (line_is a.why r c.report_refusal-report.ensures) at
    (stops _ _ _ _ (take c.in_ok-at.at c.labelled.new.out) (at_place r.place)
    (10 ∷ []) first c.in_err-at-2.ensures.given))

pub returns-clause-result_after : goal.returns-clause-result_after
returns-clause-result_after g c =
    let a = c.args in
    let r = c.report_refusal-report.result in
    rw (← line_is a.why r c.report_refusal-report.ensures)
    (then_ok (ascii "refused " ++ decimal r.number) (at_place r.place ++ (10 ∷ []))
    (waiting a.out.now a.used) c.text.new.out c.text.result c.in_ok-at.ensures.result_after
    (then_ok (at_place r.place)
    (10 ∷ []) _ c.text.new.out c.text.result c.in_ok-at-2.ensures.result_after c.text.ensures.result_after))

pub returns-clause-given : goal.returns-clause-given
returns-clause-given g c =
    let a = c.args in
    let r = c.report_refusal-report.result in
    let waits = take a.used a.out.now in
    let first = put_next _ _ _ _ waits (ascii "refused " ++ decimal r.number) (at_place r.place ++ (10 ∷ []))
    (begins (g.W.Write.contents a.to.now) (waits ++ line_of r)) _ c.in_ok-at.ensures.given in
    let second = put_next _ _ _ _ (take c.in_ok-at.at c.labelled.new.out) (at_place r.place)
    (10 ∷ []) first _ c.in_ok-at-2.ensures.given in
    rw (line_is a.why r c.report_refusal-report.ensures) at
    (ends _ _ _ _ (take c.in_ok-at-2.at c.at_place.new.out)
    (10 ∷ []) c.text.new.out c.text.result second c.text.ensures.given)
