-- `chunklist_lines::first_line` meets its contract: what the calls say, one behind the other. Assumes nothing.
use Rattle.std.proofs.Common.{ℕ, List, [], ◌∷◌, ◌++◌, take}
use Rattle.text_print.specs.Output.{waiting}
use Rattle.text_print.proofs.GivenLaws.{begins, put_next, stops, ends, printed_err}
use Rattle.format.specs.Ascii.{ascii}
use Rattle.validate_rules.specs.Findings.{verdict_word}
use Rattle.chunklist_lines.specs.Lines.{decimal, first_line}
use Rattle.chunklist_lines.proofs.Laws.{then_ok}
use Rattle.chunklist_lines.proofs.first_line.Goals as goal

pub returns-in_err-at-clause-given : goal.returns-in_err-at-clause-given
unfolding first_line
returns-in_err-at-clause-given g c =
    let a = c.args in
    let waits = take a.used a.out.now in
    let t6 : List ℕ = 10 ∷ [] in
    let t5 : List ℕ = (verdict_word a.verdict) ++ t6 in
    let t4 : List ℕ = (ascii " verdict ") ++ t5 in
    let t3 : List ℕ = (ascii " trailing " ++ decimal a.trailing) ++ t4 in
    let t2 : List ℕ = (ascii " functions " ++ decimal a.functions) ++ t3 in
    let p0 = begins (g.W.Write.contents a.to.now) (waits ++ ((ascii "chunk " ++ decimal a.bytes) ++ t2)) in
    printed_err _ _ _ _ c.from_residual.result c.from_residual.ensures.0
    (stops _ _ _ _ waits (ascii "chunk " ++ decimal a.bytes) t2 p0 c.in_err-at.ensures.given)

pub returns-in_err-at-2-clause-given : goal.returns-in_err-at-2-clause-given
unfolding first_line
returns-in_err-at-2-clause-given g c =
    let a = c.args in
    let waits = take a.used a.out.now in
    let t6 : List ℕ = 10 ∷ [] in
    let t5 : List ℕ = (verdict_word a.verdict) ++ t6 in
    let t4 : List ℕ = (ascii " verdict ") ++ t5 in
    let t3 : List ℕ = (ascii " trailing " ++ decimal a.trailing) ++ t4 in
    let t2 : List ℕ = (ascii " functions " ++ decimal a.functions) ++ t3 in
    let p0 = begins (g.W.Write.contents a.to.now) (waits ++ ((ascii "chunk " ++ decimal a.bytes) ++ t2)) in
    let p1 = put_next _ _ _ _ waits (ascii "chunk " ++ decimal a.bytes) t2 p0 _ c.in_ok-at.ensures.given in
    printed_err _ _ _ _ c.from_residual-in_err-at-2.result c.from_residual-in_err-at-2.ensures.0
    (stops _ _ _ _ (take c.in_ok-at.at c.labelled.new.out)
    (ascii " functions " ++ decimal a.functions) t3 p1 c.in_err-at-2.ensures.given)

pub returns-in_err-at-3-clause-given : goal.returns-in_err-at-3-clause-given
unfolding first_line
returns-in_err-at-3-clause-given g c =
    let a = c.args in
    let waits = take a.used a.out.now in
    let t6 : List ℕ = 10 ∷ [] in
    let t5 : List ℕ = (verdict_word a.verdict) ++ t6 in
    let t4 : List ℕ = (ascii " verdict ") ++ t5 in
    let t3 : List ℕ = (ascii " trailing " ++ decimal a.trailing) ++ t4 in
    let t2 : List ℕ = (ascii " functions " ++ decimal a.functions) ++ t3 in
    let p0 = begins (g.W.Write.contents a.to.now) (waits ++ ((ascii "chunk " ++ decimal a.bytes) ++ t2)) in
    let p1 = put_next _ _ _ _ waits (ascii "chunk " ++ decimal a.bytes) t2 p0 _ c.in_ok-at.ensures.given in
    let p2 = put_next _ _ _ _ (take c.in_ok-at.at c.labelled.new.out)
    (ascii " functions " ++ decimal a.functions) t3 p1 _ c.in_ok-at-2.ensures.given in
    printed_err _ _ _ _ c.from_residual-in_err-at-3.result c.from_residual-in_err-at-3.ensures.0
    (stops _ _ _ _ (take c.in_ok-at-2.at c.labelled-2.new.out)
    (ascii " trailing " ++ decimal a.trailing) t4 p2 c.in_err-at-3.ensures.given)

pub returns-in_err-at-4-clause-given : goal.returns-in_err-at-4-clause-given
unfolding first_line
returns-in_err-at-4-clause-given g c =
    let a = c.args in
    let waits = take a.used a.out.now in
    let t6 : List ℕ = 10 ∷ [] in
    let t5 : List ℕ = (verdict_word a.verdict) ++ t6 in
    let t4 : List ℕ = (ascii " verdict ") ++ t5 in
    let t3 : List ℕ = (ascii " trailing " ++ decimal a.trailing) ++ t4 in
    let t2 : List ℕ = (ascii " functions " ++ decimal a.functions) ++ t3 in
    let p0 = begins (g.W.Write.contents a.to.now) (waits ++ ((ascii "chunk " ++ decimal a.bytes) ++ t2)) in
    let p1 = put_next _ _ _ _ waits (ascii "chunk " ++ decimal a.bytes) t2 p0 _ c.in_ok-at.ensures.given in
    let p2 = put_next _ _ _ _ (take c.in_ok-at.at c.labelled.new.out)
    (ascii " functions " ++ decimal a.functions) t3 p1 _ c.in_ok-at-2.ensures.given in
    let p3 = put_next _ _ _ _ (take c.in_ok-at-2.at c.labelled-2.new.out)
    (ascii " trailing " ++ decimal a.trailing) t4 p2 _ c.in_ok-at-3.ensures.given in
    printed_err _ _ _ _ c.from_residual-in_err-at-4.result c.from_residual-in_err-at-4.ensures.0
    (stops _ _ _ _ (take c.in_ok-at-3.at c.labelled-3.new.out)
    (ascii " verdict ") t5 p3 c.in_err-at-4.ensures.given)

pub returns-in_err-at-5-clause-given : goal.returns-in_err-at-5-clause-given
unfolding first_line
returns-in_err-at-5-clause-given g c =
    let a = c.args in
    let waits = take a.used a.out.now in
    let t6 : List ℕ = 10 ∷ [] in
    let t5 : List ℕ = (verdict_word a.verdict) ++ t6 in
    let t4 : List ℕ = (ascii " verdict ") ++ t5 in
    let t3 : List ℕ = (ascii " trailing " ++ decimal a.trailing) ++ t4 in
    let t2 : List ℕ = (ascii " functions " ++ decimal a.functions) ++ t3 in
    let p0 = begins (g.W.Write.contents a.to.now) (waits ++ ((ascii "chunk " ++ decimal a.bytes) ++ t2)) in
    let p1 = put_next _ _ _ _ waits (ascii "chunk " ++ decimal a.bytes) t2 p0 _ c.in_ok-at.ensures.given in
    let p2 = put_next _ _ _ _ (take c.in_ok-at.at c.labelled.new.out)
    (ascii " functions " ++ decimal a.functions) t3 p1 _ c.in_ok-at-2.ensures.given in
    let p3 = put_next _ _ _ _ (take c.in_ok-at-2.at c.labelled-2.new.out)
    (ascii " trailing " ++ decimal a.trailing) t4 p2 _ c.in_ok-at-3.ensures.given in
    let p4 = put_next _ _ _ _ (take c.in_ok-at-3.at c.labelled-3.new.out)
    (ascii " verdict ") t5 p3 _ c.in_ok-at-4.ensures.given in
    printed_err _ _ _ _ c.from_residual-in_err-at-5.result c.from_residual-in_err-at-5.ensures.0
    (stops _ _ _ _ (take c.in_ok-at-4.at c.text.new.out) (verdict_word a.verdict) t6 p4 c.in_err-at-5.ensures.given)

pub returns-clause-result_after : goal.returns-clause-result_after
unfolding first_line
returns-clause-result_after g c =
    let a = c.args in
    let t6 : List ℕ = 10 ∷ [] in
    let t5 : List ℕ = (verdict_word a.verdict) ++ t6 in
    let t4 : List ℕ = (ascii " verdict ") ++ t5 in
    let t3 : List ℕ = (ascii " trailing " ++ decimal a.trailing) ++ t4 in
    let t2 : List ℕ = (ascii " functions " ++ decimal a.functions) ++ t3 in
    then_ok (ascii "chunk " ++ decimal a.bytes) t2
    (waiting a.out.now a.used) c.text-2.new.out c.text-2.result c.in_ok-at.ensures.result_after
    (then_ok (ascii " functions " ++ decimal a.functions) t3 _ c.text-2.new.out c.text-2.result c.in_ok-at-2.ensures.result_after
    (then_ok (ascii " trailing " ++ decimal a.trailing) t4 _ c.text-2.new.out c.text-2.result c.in_ok-at-3.ensures.result_after
    (then_ok (ascii " verdict ") t5 _ c.text-2.new.out c.text-2.result c.in_ok-at-4.ensures.result_after
    (then_ok (verdict_word a.verdict) t6 _ c.text-2.new.out c.text-2.result c.in_ok-at-5.ensures.result_after
    c.text-2.ensures.result_after))))

pub returns-clause-given : goal.returns-clause-given
unfolding first_line
returns-clause-given g c =
    let a = c.args in
    let waits = take a.used a.out.now in
    let t6 : List ℕ = 10 ∷ [] in
    let t5 : List ℕ = (verdict_word a.verdict) ++ t6 in
    let t4 : List ℕ = (ascii " verdict ") ++ t5 in
    let t3 : List ℕ = (ascii " trailing " ++ decimal a.trailing) ++ t4 in
    let t2 : List ℕ = (ascii " functions " ++ decimal a.functions) ++ t3 in
    let p0 = begins (g.W.Write.contents a.to.now) (waits ++ ((ascii "chunk " ++ decimal a.bytes) ++ t2)) in
    let p1 = put_next _ _ _ _ waits (ascii "chunk " ++ decimal a.bytes) t2 p0 _ c.in_ok-at.ensures.given in
    let p2 = put_next _ _ _ _ (take c.in_ok-at.at c.labelled.new.out)
    (ascii " functions " ++ decimal a.functions) t3 p1 _ c.in_ok-at-2.ensures.given in
    let p3 = put_next _ _ _ _ (take c.in_ok-at-2.at c.labelled-2.new.out)
    (ascii " trailing " ++ decimal a.trailing) t4 p2 _ c.in_ok-at-3.ensures.given in
    let p4 = put_next _ _ _ _ (take c.in_ok-at-3.at c.labelled-3.new.out)
    (ascii " verdict ") t5 p3 _ c.in_ok-at-4.ensures.given in
    let p5 = put_next _ _ _ _ (take c.in_ok-at-4.at c.text.new.out)
    (verdict_word a.verdict) t6 p4 _ c.in_ok-at-5.ensures.given in
    ends _ _ _ _ (take c.in_ok-at-5.at c.verdict_word.new.out) t6 c.text-2.new.out c.text-2.result p5 c.text-2.ensures.given
