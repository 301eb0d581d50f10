-- `read_chunk::summary::judge_spelling` meets its contract: by what `open_chunk` and `skim_main` showed (`BeforeMain.antt`). Assumes nothing.
use Rattle.std.proofs.lemmas.Result.{err_from_is_err_and}
use Rattle.std.specs.Prelude.{Ok}
use mathlib.Core.Path.{refl, sym, ◌∙◌, ap}
use Rattle.format.specs.GrammarChunk.{outermost}
use Rattle.format_spelling.specs.ReadSpelling.{spelling}
use Rattle.format_spelling.proofs.Tallies.{room_unused}
use Rattle.read_chunk.specs.Inner.Decoded.{spelt_result}
use Rattle.read_chunk.proofs.Summaries.{in_ceilings}
use Rattle.read_chunk.proofs.BeforeMain.{not_opened, in_limits, spelt-refused, spelt-read}
use Rattle.read_chunk.proofs.summary.judge_spelling.Goals as goal

pub skim_main-requires : goal.skim_main-requires
skim_main-requires c =
    let a = c.args in
    let l = in_ceilings a.limits (in_limits a.limits a.s.now c.in_ok-opening.opening (sym c.in_ok-opening.was ∙ c.open_chunk.ensures)) in
    (l.1, l.0, room_unused _)

pub returns-in_err-opening : goal.returns-in_err-opening
returns-in_err-opening c =
    let p = err_from_is_err_and c.from_residual.result c.from_residual.ensures.1 in
    rw (p.1, p.2) (let a = c.args in
    sym (ap (spelt_result (spelling a.limits a.s.now)) (not_opened a.limits a.s.now _ (sym c.in_err-opening.was ∙ c.open_chunk.ensures))))

pub returns-in_err-skimmed : goal.returns-in_err-skimmed
returns-in_err-skimmed c =
    let p = err_from_is_err_and c.from_residual-in_err-skimmed.result c.from_residual-in_err-skimmed.ensures.1 in
    rw (p.1, p.2) (let a = c.args in
    spelt-refused a.limits a.s.now c.in_ok-opening.opening (sym c.in_ok-opening.was ∙ c.open_chunk.ensures)
    _ (sym c.in_err-skimmed.was ∙ c.skim_main.ensures.value outermost refl refl refl))

pub returns : goal.returns
returns c =
    let a = c.args in
    (λ i. Ok ((c.summarised-summary.ensures i), (c.spelling_of-spelling.ensures i)))
    ∙ spelt-read a.limits a.s.now c.in_ok-opening.opening (sym c.in_ok-opening.was ∙ c.open_chunk.ensures)
    c.in_ok-skimmed.skimmed (sym c.in_ok-skimmed.was ∙ c.skim_main.ensures.value outermost refl refl refl) _ _ refl (c.skim_main.ensures.adds outermost refl refl refl refl)
