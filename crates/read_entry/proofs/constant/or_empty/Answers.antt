-- `read_entry::constant::or_empty` meets its contract: by whether the string is there. Assumes nothing.
use Rattle.read_entry.proofs.constant.or_empty.Goals as goal

pub returns-in-None : goal.returns-in-None
returns-in-None c = rw c.in-None.is
