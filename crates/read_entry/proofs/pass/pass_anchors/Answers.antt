-- `read_entry::pass::pass_anchors` meets its contract. The invariant: there is room, and what all anchors show and add those left show and add (`TurnsCounted.antt`). Assumes nothing.
use Rattle.std.proofs.lemmas.Result.{err_from_is_err_and}
use mathlib.Core.Path.{sym, ◌∙◌}
use native.Mathlib.Omega.{arith}
use Rattle.format.proofs.ExactChunk.{exact_anchor}
use Rattle.format_spelling.proofs.SpellingLaws.{tells_anchor}
use Rattle.format_spelling.proofs.Few.{few_anchor}
use Rattle.format_spelling.proofs.Covers.{covers_few}
use Rattle.read_entry.proofs.TurnsCounted.{begins, ends, stops, goes_on_lem}
use Rattle.read_entry.proofs.pass.pass_anchors.Goals as goal

pub loop-init : goal.loop-init
loop-init c = begins (omega arith) c.requires

pub pass_anchor-requires : goal.pass_anchor-requires
pass_anchor-requires c = c.loop.invariant.room

pub returns-in_err-next : goal.returns-in_err-next
returns-in_err-next c =
    let p = err_from_is_err_and c.from_residual.result c.from_residual.ensures.1 in
    rw (p.1, p.2) (let both = stops c.loop.invariant (omega arith) (sym c.in_err-next.was ∙ c.pass_anchor.ensures.value) in record { value = both.0; adds = both.1 })

pub loop-preserved : goal.loop-preserved
loop-preserved c = goes_on_lem c.loop.invariant (omega arith) exact_anchor (covers_few exact_anchor tells_anchor few_anchor) (sym c.in_ok-next.was ∙ c.pass_anchor.ensures.value) c.pass_anchor.ensures.adds

pub returns : goal.returns
returns c = let both = ends c.loop.invariant (omega arith) in record { value = both.0; adds = both.1 }
