-- `read_prototype::front::read_front` meets its contract: at each return the calls say which case of the reader holds (`FrontAnswers.antt`). Assumes nothing.
use Rattle.std.proofs.lemmas.Result.{err_from_is_err_and}
use Rattle.std.specs.Prelude.{Ok}
use mathlib.Core.Path.{◌≡◌, sym, ◌∙◌}
use borrow.Author.Rules.{rules}
use lib.ListN.{drop}
use Rattle.format.specs.ReadFields.{string}
use Rattle.read_field.specs.Shown.{string_result}
use Rattle.read_prototype.specs.Front.{lines}
use Rattle.read_prototype.specs.Inner.Results.{lines_result}
use Rattle.read_prototype.proofs.On.{nothing_said}
use Rattle.read_prototype.proofs.FrontAnswers.{source-refused, lines-refused, sizes-refused, whole-front, front_err, source-room, front-add}
use Rattle.read_prototype.proofs.front.read_front.Goals as goal
use Rattle.read_prototype.proofs.front.read_front.Goals.{In_ok-source, In_ok-lines}

named : (c : In_ok-source) → let a = c.args in Ok (c.in_ok-source.source, c.in_ok-source.behind) ≡ string_result (string a.max_string_bytes a.cursor.at (drop a.cursor.at a.s.now))
named c = sym c.in_ok-source.was ∙ c.tally_string.ensures.value

lined : (c : In_ok-lines) → let at = c.in_ok-source.behind.at in
    Ok (c.in_ok-lines.lines, c.in_ok-lines.further) ≡ lines_result (lines at (drop at c.args.s.now))
lined c = sym c.in_ok-lines.was ∙ c.read_lines.ensures.value

pub tally_string-requires : goal.tally_string-requires
tally_string-requires c = c.requires

pub read_lines-requires : goal.read_lines-requires
read_lines-requires c =
    source-room c.args.s.now c.args.max_string_bytes c.args.cursor.at _ _ (named (goal.at.read_lines-requires c).In_ok-source) c.requires c.tally_string.ensures.adds

pub returns-in_err-source : goal.returns-in_err-source
returns-in_err-source c =
    let p = err_from_is_err_and c.from_residual.result c.from_residual.ensures.1 in
    rw (p.1, p.2) (let a = c.args in let both = nothing_said (front_err _ _) (source-refused a.s.now a.max_string_bytes a.cursor.at _ (sym c.in_err-source.was ∙ c.tally_string.ensures.value)) in record { value = both.0; adds = both.1 })

pub returns-in_err-lines : goal.returns-in_err-lines
returns-in_err-lines c =
    let p = err_from_is_err_and c.from_residual-in_err-lines.result c.from_residual-in_err-lines.ensures.1 in
    rw (p.1, p.2) (let a = c.args in let both = nothing_said (front_err _ _) (lines-refused a.s.now a.max_string_bytes a.cursor.at _ _ (named (goal.at.returns-in_err-lines c).In_ok-source) _ (sym c.in_err-lines.was ∙ c.read_lines.ensures.value)) in record { value = both.0; adds = both.1 })

pub returns-in_err-sizes : goal.returns-in_err-sizes
returns-in_err-sizes c =
    let p = err_from_is_err_and c.from_residual-in_err-sizes.result c.from_residual-in_err-sizes.ensures.1 in
    rw (p.1, p.2) (let a = c.args in let both = nothing_said (front_err _ _) (sizes-refused a.s.now a.max_string_bytes a.cursor.at _ _ (named (goal.at.returns-in_err-sizes c).In_ok-source) _ _ (lined (goal.at.returns-in_err-sizes c).In_ok-lines) _ (sym c.in_err-sizes.was ∙ c.read_sizes.ensures)) in record { value = both.0; adds = both.1 })

pub returns : goal.returns
returns c =
    let a = c.args in record { value = whole-front a.s.now a.max_string_bytes a.cursor.at _ _ (named (goal.at.returns c).In_ok-source) _ _ (lined (goal.at.returns c).In_ok-lines) _ _ (sym c.in_ok-sizes.was ∙ c.read_sizes.ensures); adds = front-add a.s.now a.max_string_bytes a.cursor.at _ _ (named (goal.at.returns c).In_ok-source) c.tally_string.ensures.adds c.read_lines.ensures.adds }
