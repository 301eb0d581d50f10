-- `strict_entry::pass::pass_present` meets its contract: by what the string showed (`Entries.antt`). Assumes nothing.
use mathlib.Core.Path.{sym, ◌∙◌}
use lib.ListN.{drop}
use Rattle.format.specs.ReadFields.{string}
use Rattle.strict_entry.proofs.Entries.{present-none, present_some}
use Rattle.strict_entry.proofs.pass.pass_present.Goals as goal

pub returns-in-None : goal.returns-in-None
returns-in-None c = let a = c.args in present-none a.cursor.at (string a.max_string_bytes a.cursor.at (drop a.cursor.at a.s.now)) _ (rw c.in-None.is at (sym c.in_ok-string.was ∙ c.read_string_lua54.ensures))

pub returns-in-Some : goal.returns-in-Some
returns-in-Some c = let a = c.args in present_some a.cursor.at (string a.max_string_bytes a.cursor.at (drop a.cursor.at a.s.now)) _ _ (rw c.in-Some.is at (sym c.in_ok-string.was ∙ c.read_string_lua54.ensures))
