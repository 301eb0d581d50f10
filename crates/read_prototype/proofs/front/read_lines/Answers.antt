-- `read_prototype::front::read_lines` meets its contract: at each return the calls say which case of the reader holds (`FrontAnswers.antt`). Assumes nothing.
use Rattle.std.proofs.lemmas.Result.{err_from_is_err_and}
use Rattle.std.specs.Prelude.{Ok}
use mathlib.Core.Path.{◌≡◌, sym, ◌∙◌}
use borrow.Author.Rules.{rules}
use lib.ListN.{drop}
use Rattle.format.specs.ReadFields.{number}
use Rattle.read_field.specs.Shown.{shown}
use Rattle.read_prototype.proofs.On.{nothing_said}
use Rattle.read_prototype.proofs.FrontAnswers.{first_refused, last-refused, two-lines, lines_err, first_room, lines-add}
use Rattle.read_prototype.proofs.front.read_lines.Goals as goal
use Rattle.read_prototype.proofs.front.read_lines.Goals.{In_ok-line_defined}

first : (c : In_ok-line_defined) → let a = c.args in Ok (c.in_ok-line_defined.line_defined, c.in_ok-line_defined.behind) ≡ shown (number a.cursor.at (drop a.cursor.at a.s.now))
first c = sym c.in_ok-line_defined.was ∙ c.tally_varint.ensures.value

pub tally_varint-requires : goal.tally_varint-requires
tally_varint-requires c = c.requires

pub tally_varint-requires-2 : goal.tally_varint-requires-2
tally_varint-requires-2 c =
    first_room c.args.s.now c.args.cursor.at _ _ (first (goal.at.tally_varint-requires-2 c).In_ok-line_defined) c.requires c.tally_varint.ensures.adds

pub returns-in_err-line_defined : goal.returns-in_err-line_defined
returns-in_err-line_defined c =
    let p = err_from_is_err_and c.from_residual.result c.from_residual.ensures.1 in
    rw (p.1, p.2) (let a = c.args in let both = nothing_said (lines_err _ _) (first_refused a.s.now a.cursor.at _ (sym c.in_err-line_defined.was ∙ c.tally_varint.ensures.value)) in record { value = both.0; adds = both.1 })

pub returns-in_err-last_line_defined : goal.returns-in_err-last_line_defined
returns-in_err-last_line_defined c =
    let p = err_from_is_err_and c.from_residual-in_err-last_line_defined.result c.from_residual-in_err-last_line_defined.ensures.1 in
    rw (p.1, p.2) (let a = c.args in let both = nothing_said (lines_err _ _) (last-refused a.s.now a.cursor.at _ _ (first (goal.at.returns-in_err-last_line_defined c).In_ok-line_defined) _ (sym c.in_err-last_line_defined.was ∙ c.tally_varint-2.ensures.value)) in record { value = both.0; adds = both.1 })

pub returns : goal.returns
returns c =
    let a = c.args in record { value = two-lines a.s.now a.cursor.at _ _ (first (goal.at.returns c).In_ok-line_defined) _ _ (sym c.in_ok-last_line_defined.was ∙ c.tally_varint-2.ensures.value); adds = lines-add a.s.now a.cursor.at _ _ (first (goal.at.returns c).In_ok-line_defined) c.tally_varint.ensures.adds c.tally_varint-2.ensures.adds }
