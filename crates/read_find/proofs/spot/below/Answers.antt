-- `read_find::spot::below` meets its contract. Assumes nothing.
use Rattle.read_find.proofs.spot.below.Goals as goal

pub returns : goal.returns
returns c = rw c.source_below-source.ensures
