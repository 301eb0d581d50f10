-- `read_field::string::read_string_lua54` meets its contract: by whether the size is read (`Strings.antt`). Assumes nothing.
use mathlib.Core.Path.{sym, ◌∙◌}
use Rattle.read_field.proofs.Strings.{size_read}
use Rattle.read_field.proofs.string.read_string_lua54.Goals as goal

pub returns : goal.returns
returns c =
    let a = c.args in
    size_read a.s.now a.max_string_bytes a.cursor.at c.in_ok-size.size c.in_ok-size.next (sym c.in_ok-size.was ∙ c.read_value.ensures) c.read_content.ensures
