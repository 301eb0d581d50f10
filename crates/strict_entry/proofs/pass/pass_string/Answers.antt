-- `strict_entry::pass::pass_string` meets its contract: the end of what was read (`Entries.antt`). Assumes nothing.
use mathlib.Core.Path.{sym, ◌∙◌}
use lib.ListN.{drop}
use Rattle.format.specs.ReadFields.{string}
use Rattle.strict_entry.proofs.Entries.{string-end}
use Rattle.strict_entry.proofs.pass.pass_string.Goals as goal

pub returns : goal.returns
returns c = let a = c.args in string-end (string a.max_string_bytes a.cursor.at (drop a.cursor.at a.s.now)) _ _ (sym c.in_ok-next.was ∙ c.read_string_lua54.ensures)
