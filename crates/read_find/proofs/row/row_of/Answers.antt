-- `read_find::row::row_of` meets its contract. Assumes nothing.
use Rattle.read_find.proofs.row.row_of.Goals as goal

pub returns : goal.returns
returns c = rw c.inherited-source.ensures
