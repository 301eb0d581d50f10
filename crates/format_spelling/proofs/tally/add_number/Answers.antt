-- `format_spelling::tally::add_number` meets its contract: by whether the number is padded. Assumes nothing.
use mathlib.Core.Path.{sym, subst, ◌∙◌, ap}
use Rattle.format_spelling.specs.Spelling.{◌⊕◌}
use Rattle.format_spelling.specs.Inner.Tally.{of_number, counts, Fits}
use Rattle.format_spelling.proofs.Sums.{join_same}
use Rattle.format_spelling.proofs.tally.add_number.Goals as goal

pub add-requires : goal.add-requires
add-requires c = subst (λ p. Fits (counts c.args.tally.now) (of_number p)) c.if-padded.true c.requires

pub returns-then-padded : goal.returns-then-padded
returns-then-padded c = c.add.ensures ∙ ap (λ p. counts c.args.tally.now ⊕ of_number p) (sym c.if-padded.true)

pub returns-else-padded : goal.returns-else-padded
returns-else-padded c =
    let a = counts c.args.tally.now in
    sym (ap (λ p. a ⊕ of_number p) c.if-padded.false ∙ join_same a)
