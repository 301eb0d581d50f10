-- `read_field::varint::tally_varint` meets its contract: a number that is read is counted by whether it is padded. Assumes nothing.
use mathlib.Core.Path.{sym, subst, ◌∙◌}
use native.Mathlib.Omega.{arith}
use lib.ListN.{drop}
use Rattle.format.specs.ReadFields.{number}
use Rattle.format.proofs.ExactFields.{exact_number}
use Rattle.format_spelling.specs.ReadSpelling.{is_padded}
use Rattle.format_spelling.specs.Inner.Tally.{of_number, counts, Fits}
use Rattle.format_spelling.proofs.SpellingLaws.{tells_number}
use Rattle.format_spelling.proofs.Few.{few_number}
use Rattle.format_spelling.proofs.Covers.{covers_few}
use Rattle.format_spelling.proofs.Tallies.{room_fits}
use Rattle.read_field.proofs.Shows.{number_ok}
use Rattle.read_field.proofs.varint.tally_varint.Goals as goal

pub add_number-requires : goal.add_number-requires
add_number-requires c =
    let at = c.args.cursor.at in
    let s = drop at c.args.s.now in
    let w = number_ok (is_padded s) (number at s) c.in_ok-value.value c.in_ok-value.next c.in_ok-value.padded (sym c.in_ok-value.was ∙ c.read_varint_lua54.ensures) in
    subst (λ p. Fits (counts c.args.tally.now) (of_number p)) (sym w.1) (room_fits c.requires ((covers_few exact_number tells_number few_number).covers at s w.0.is) (omega (arith)))
