-- `text_print::write_out` meets its contract. Assumes nothing.
use Rattle.std.proofs.Common.{◌+◌, ◌-◌, arith, take, drop, length, length-drop, length-take}
use Rattle.text_print.proofs.GivenLaws.{appends_kept, given_more, cut_at, written_err}
use Rattle.text_print.proofs.write_out.Goals as goal

pub returns-in_err-n : goal.returns-in_err-n
returns-in_err-n g c =
    written_err _ _ _ c.from_residual.result c.from_residual.ensures.0
    (cut_at _ _ c.args.bytes.now c.loop-done.done
    (appends_kept _ _ _ (take c.loop-done.done c.args.bytes.now) c.loop-done.invariant.1 c.in_err-n.ensures.bytes))

pub returns-then-n-eq0 : goal.returns-then-n-eq0
returns-then-n-eq0 g c =
    let b = c.args.bytes.now in
    let done = c.loop-done.done in
    cut_at _ _ b (done + c.in_ok-n.n)
    (given_more _ _ _ b done c.in_ok-n.n c.loop-done.invariant.1 c.in_ok-n.ensures.bytes)

pub loop-done-preserved : goal.loop-done-preserved
loop-done-preserved g c =
    let b = c.args.bytes.now in
    let done = c.loop-done.done in (
      omega (arith, c.in_ok-n.ensures.bound, length-take (length b - done) (drop done b), length-drop done b),
      given_more _ _ _ b done c.in_ok-n.n c.loop-done.invariant.1 c.in_ok-n.ensures.bytes,
    )
