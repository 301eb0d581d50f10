-- `text_print::text` meets its contract. Assumes nothing.
use Rattle.std.proofs.Common.{◌+◌, ◌∷◌, [], ◌++◌, ◌∙◌, refl, sym, arith, take, drop, get_or}
use Rattle.text_print.specs.Output.{waiting}
use Rattle.text_print.proofs.OutputLaws.{puts_one, puts-end, one_less, none_left}
use Rattle.text_print.proofs.GivenLaws.{begins, put_next, stops, no_more, printed_err}
use Rattle.text_print.proofs.text.Goals as goal

pub loop-b-init : goal.loop-b-init
loop-b-init g c = (
  c.requires,
  refl,
  begins (g.W.Write.contents c.args.to.now)
      (take c.args.used c.args.out.now ++ c.args.s.now),
)

pub returns-in_err-at-clause-given : goal.returns-in_err-at-clause-given
returns-in_err-at-clause-given g c =
    let s = c.args.s.now in
    let l = c.loop-b in
    printed_err _ _ _ _ c.from_residual.result c.from_residual.ensures.0
    (stops _ (g.W.Write.contents l.to) _ _ (take l.at l.out) (get_or s l.b-index 0 ∷ []) (drop (l.b-index + 1) s)
    (rw (one_less s l.b-index (omega arith)) at l.invariant.2) c.in_err-at.ensures.given)

pub loop-b-preserved : goal.loop-b-preserved
loop-b-preserved g c =
    let s = c.args.s.now in
    let l = c.loop-b in (
      c.in_ok-at.ensures.fits,
      rw (c.in_ok-at.ensures.result_after, ← puts_one s l.b-index (waiting l.out l.at) (omega arith)) l.invariant.1,
      put_next _ (g.W.Write.contents l.to) _ _ (take l.at l.out) (get_or s l.b-index 0 ∷ []) (drop (l.b-index + 1) s)
          (rw (one_less s l.b-index (omega arith)) at l.invariant.2) _ c.in_ok-at.ensures.given,
    )

pub returns-clause-result_after : goal.returns-clause-result_after
returns-clause-result_after g c =
    let l = c.loop-b in
    sym (puts-end c.args.s.now l.b-index (waiting l.out l.at) (omega arith)) ∙ l.invariant.1

pub returns-clause-given : goal.returns-clause-given
returns-clause-given g c =
    let l = c.loop-b in
    no_more _ _ _ (take l.at l.out) (rw (none_left c.args.s.now l.b-index (omega arith)) at l.invariant.2)
