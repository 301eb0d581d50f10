-- `strict_entry::int::pass_int` meets its contract: the end of what was read (`Entries.antt`). Assumes nothing.
use mathlib.Core.Path.{sym, ◌∙◌}
use lib.ListN.{drop}
use Rattle.format_strict.specs.ReadStrict.{int}
use Rattle.strict_entry.proofs.Entries.{int-end}
use Rattle.strict_entry.proofs.int.pass_int.Goals as goal

pub returns : goal.returns
returns c = let a = c.args in int-end (int a.cursor.at (drop a.cursor.at a.s.now)) _ _ (sym c.in_ok-next.was ∙ c.read_int.ensures)
