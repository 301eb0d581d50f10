-- `read_field::string::tally_string` meets its contract: by whether the size is read (`Strings.antt`); what follows the size adds nothing. Assumes nothing.
use mathlib.Core.Path.{sym, ◌∙◌}
use Rattle.read_field.proofs.Strings.{size_read}
use Rattle.read_field.proofs.string.tally_string.Goals as goal

pub returns-clause-value : goal.returns-clause-value
returns-clause-value c =
    let a = c.args in
    size_read a.s.now a.max_string_bytes a.cursor.at c.in_ok-size.size c.in_ok-size.next (sym c.in_ok-size.was ∙ c.tally_varint.ensures.value) c.read_content.ensures
