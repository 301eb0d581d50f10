-- `read_entry::constant::float` meets its contract: by what was read. Assumes nothing.
use Rattle.read_entry.proofs.constant.float.Goals as goal

pub returns-in-Err : goal.returns-in-Err
returns-in-Err c = rw c.in-Err.is

pub returns-in-Ok : goal.returns-in-Ok
returns-in-Ok c = rw c.in-Ok.is
