-- `read_chunk::summary::decode_chunk_lua54` meets its contract: by what `open_chunk` and `find_row` showed (`BeforeMain.antt`). Assumes nothing.
use Rattle.std.proofs.lemmas.Result.{err_from_is_err_and}
use Rattle.std.specs.Prelude.{Ok}
use mathlib.Core.Path.{sym, ◌∙◌, ap}
use Rattle.read_chunk.specs.Inner.Decoded.{decoded_result}
use Rattle.read_chunk.proofs.Summaries.{in_ceilings}
use Rattle.read_chunk.proofs.BeforeMain.{not_opened, in_limits, decoded-refused, decoded-read}
use Rattle.read_chunk.proofs.summary.decode_chunk_lua54.Goals as goal

pub find_row-requires : goal.find_row-requires
find_row-requires c =
    let a = c.args in
    let l = in_ceilings a.limits (in_limits a.limits a.s.now c.in_ok-opening.opening (sym c.in_ok-opening.was ∙ c.open_chunk.ensures)) in
    (l.1, l.0)

pub returns-in_err-opening : goal.returns-in_err-opening
returns-in_err-opening c =
    let p = err_from_is_err_and c.from_residual.result c.from_residual.ensures.1 in
    rw (p.1, p.2) (let a = c.args in
    sym (ap (decoded_result a.wanted) (not_opened a.limits a.s.now _ (sym c.in_err-opening.was ∙ c.open_chunk.ensures))))

pub returns-in_err-walked : goal.returns-in_err-walked
returns-in_err-walked c =
    let p = err_from_is_err_and c.from_residual-in_err-walked.result c.from_residual-in_err-walked.ensures.1 in
    rw (p.1, p.2) (let a = c.args in
    decoded-refused a.limits a.s.now c.in_ok-opening.opening (sym c.in_ok-opening.was ∙ c.open_chunk.ensures) a.wanted _ (sym c.in_err-walked.was ∙ c.find_row.ensures))

pub returns : goal.returns
returns c =
    let a = c.args in
    ap (λ y. Ok (record { summary = y; row = c.in_ok-walked.row })) c.summarised-summary.ensures
    ∙ decoded-read a.limits a.s.now c.in_ok-opening.opening (sym c.in_ok-opening.was ∙ c.open_chunk.ensures) a.wanted _ _ (sym c.in_ok-walked.was ∙ c.find_row.ensures)
