-- `strict_entry::pass::pass_anchors` meets its contract. The invariant: what all anchors show those left show (`Turns.antt`). Assumes nothing.
use Rattle.std.proofs.lemmas.Result.{err_from_is_err_and}
use mathlib.Core.Path.{sym, ◌∙◌}
use native.Mathlib.Omega.{arith}
use Rattle.format_strict.proofs.ExactStrict.{exact_strict_anchor}
use Rattle.strict_entry.proofs.Turns.{begins, ends, stops, goes_on_lem}
use Rattle.strict_entry.proofs.pass.pass_anchors.Goals as goal

pub loop-init : goal.loop-init
loop-init c = begins (omega arith)

pub returns-in_err-next : goal.returns-in_err-next
returns-in_err-next c =
    let p = err_from_is_err_and c.from_residual.result c.from_residual.ensures.1 in
    rw (p.1, p.2) (stops c.loop.invariant (omega arith) (sym c.in_err-next.was ∙ c.pass_two.ensures))

pub loop-preserved : goal.loop-preserved
loop-preserved c = goes_on_lem c.loop.invariant (omega arith) exact_strict_anchor (sym c.in_ok-next.was ∙ c.pass_two.ensures)

pub returns : goal.returns
returns c = ends c.loop.invariant (omega arith)
