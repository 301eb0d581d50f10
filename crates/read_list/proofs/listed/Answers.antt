-- `read_list::listed` meets its contract: by whether the items were there. Assumes nothing.
use Rattle.read_list.proofs.listed.Goals as goal

pub returns : goal.returns
returns c = rw c.in_ok-items.was
