-- `read_entry::constant::short_string` meets its contract: by what was read. Assumes nothing.
use Rattle.read_entry.proofs.constant.short_string.Goals as goal

pub returns-in-Err : goal.returns-in-Err
returns-in-Err c = rw c.in-Err.is

pub returns-in-Ok : goal.returns-in-Ok
returns-in-Ok c = rw (c.or_empty.ensures, c.in-Ok.is)
