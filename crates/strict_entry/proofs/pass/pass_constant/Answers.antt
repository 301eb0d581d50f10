-- `strict_entry::pass::pass_constant` meets its contract: by whether the tag is there (`Entries.antt`). Assumes nothing.
use mathlib.Core.Path.{sym, ◌∙◌}
use Rattle.strict_entry.proofs.Entries.{tag_read}
use Rattle.strict_entry.proofs.pass.pass_constant.Goals as goal

pub returns : goal.returns
returns c =
    let a = c.args in
    tag_read a.s.now a.max_string_bytes a.cursor.at _ _ (sym c.in_ok-value.was ∙ c.read_u8.ensures) c.pass_tagged.ensures
