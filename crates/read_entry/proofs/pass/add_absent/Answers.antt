-- `read_entry::pass::add_absent` meets its contract: by whether the string is there. Assumes nothing.
use mathlib.Core.Path.{sym}
use Rattle.format_spelling.specs.Inner.Tally.{counts}
use Rattle.format_spelling.proofs.Sums.{join_same}
use Rattle.read_entry.proofs.pass.add_absent.Goals as goal

pub add-requires : goal.add-requires
add-requires c = rw c.in-None.is at c.requires

pub returns-in-Some : goal.returns-in-Some
returns-in-Some c = rw c.in-Some.is (sym (join_same (counts c.args.tally.now)))

pub returns-in-None : goal.returns-in-None
returns-in-None c = rw c.in-None.is c.add.ensures
