-- `chunklist_lines::numbers` meets its contract. Assumes nothing.
use Rattle.std.proofs.Common.{◌+◌, [], ◌∷◌, refl, arith, take, drop, get_or}
use Rattle.text_print.specs.Output.{waiting}
use Rattle.text_print.proofs.GivenLaws.{begins, put_next, stops, ends, printed_err}
use Rattle.chunklist_lines.specs.Lines.{decimal, spaced}
use Rattle.chunklist_lines.proofs.Laws.{
  digits_put,
  decimal_gives,
  decimal_full,
  one_left,
  none_left,
  spaced-one,
  spaced_ok,
}
use Rattle.chunklist_lines.proofs.numbers.Goals as goal

pub returns-in_err-at-clause-given : goal.returns-in_err-at-clause-given
returns-in_err-at-clause-given g c =
    let a = c.args in
    let waits = take a.used a.out.now in
    printed_err _ _ _ _ c.from_residual.result c.from_residual.ensures.0
    (stops _ _ _ _ waits (decimal a.first) (spaced a.more.now) (begins (g.W.Write.contents a.to.now) _)
    (decimal_full _ _ waits a.first c.in_err-at.ensures.given))

pub loop-x-init : goal.loop-x-init
loop-x-init g c =
    let a = c.args in
    let waits = take a.used a.out.now in (
      c.in_ok-at.ensures.fits,
      refl,
      put_next _ _ _ _ waits (decimal a.first) (spaced a.more.now) (begins (g.W.Write.contents a.to.now) _) _
          (decimal_gives _ _ waits _ a.first c.in_ok-at.ensures.given),
    )

pub returns-in_err-at-2-clause-given : goal.returns-in_err-at-2-clause-given
returns-in_err-at-2-clause-given g c =
    let s = c.args.more.now in
    let l = c.loop-x in
    printed_err _ _ _ _ c.from_residual-in_err-at-2.result c.from_residual-in_err-at-2.ensures.0
    (stops _ (g.W.Write.contents l.to) _ _ (take l.at l.out) (32 ∷ decimal (get_or s l.x-index 0)) (spaced (drop (l.x-index + 1) s))
    (rw (one_left s l.x-index (omega arith)) at l.invariant.2) c.in_err-at-2.ensures.given)

pub loop-x-preserved : goal.loop-x-preserved
loop-x-preserved g c =
    let s = c.args.more.now in
    let l = c.loop-x in (
      c.in_ok-at-2.ensures.fits,
      rw (c.in_ok-at-2.ensures.result_after, ← spaced-one s l.x-index (waiting l.out l.at) (omega arith)) l.invariant.1,
      put_next _ (g.W.Write.contents l.to) _ _ (take l.at l.out) (32 ∷ decimal (get_or s l.x-index 0))
          (spaced (drop (l.x-index + 1) s))
          (rw (one_left s l.x-index (omega arith)) at l.invariant.2) _ c.in_ok-at-2.ensures.given,
    )

pub returns-clause-result_after : goal.returns-clause-result_after
returns-clause-result_after g c =
    let a = c.args in
    let l = c.loop-x in
    spaced_ok a.first a.more.now l.x-index (waiting a.out.now a.used) (waiting c.decimal.new.out c.in_ok-at.at)
    (waiting l.out l.at) c.text.new.out c.text.result (omega arith)
    (digits_put a.first c.in_ok-at.ensures.digits) l.invariant.1 c.text.ensures.result_after

pub returns-clause-given : goal.returns-clause-given
returns-clause-given g c =
    let l = c.loop-x in
    ends _ (g.W.Write.contents l.to) _ _ (take l.at l.out) (10 ∷ []) c.text.new.out c.text.result
    (rw (none_left c.args.more.now l.x-index (omega arith)) at l.invariant.2) c.text.ensures.given
