-- `read_find::find::find_row` meets its contract: by what `find_function` showed and found (Main.antt), for the row that is read at the spot. Assumes nothing.
use Rattle.std.proofs.lemmas.Result.{err_from_is_err_and}
use Rattle.std.specs.Prelude.{Ok}
use mathlib.Core.Path.{sym, ◌∙◌, ap}
use Rattle.read_find.proofs.Spots.{no_row_left}
use Rattle.read_find.proofs.Main.{main-refused, main-read}
use Rattle.read_find.proofs.find.find_row.Goals as goal

pub returns-in_err-walked : goal.returns-in_err-walked
returns-in_err-walked c =
    let p = err_from_is_err_and c.from_residual.result c.from_residual.ensures.1 in
    rw (p.1, p.2) (let a = c.args in
    main-refused a.s.now a.limits a.wanted a.limits.max_nesting_depth a.main_at _ (sym c.in_err-walked.was ∙ c.find_function.ensures.value))

pub returns : goal.returns
returns c =
    let a = c.args in
    ap (λ row. Ok (c.in_ok-walked.walked, row)) c.row_at-row.ensures
    ∙ main-read a.s.now a.limits a.wanted a.limits.max_nesting_depth a.main_at c.in_ok-walked.walked (sym c.in_ok-walked.was ∙ c.find_function.ensures.value)
    _ _ (no_row_left a.limits a.s.now) c.find_function.ensures.found
