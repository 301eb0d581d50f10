-- `c_entries_at::up_to_two` meets its contract. Assumes nothing.
use borrow.Author.Rules.{rules}
use Rattle.c_entries_at.proofs.Arrays as arrays
use Rattle.c_entries_at.proofs.up_to_two.Goals as goal

pub returns : goal.returns
returns c = arrays.up_to_two c.args.n c.args.to (search rules)
