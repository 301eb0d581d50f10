-- `read_entry::constant::integer` meets its contract: by what was read. Assumes nothing.
use mir.Syntax.{w64}
use mir.Facts.{to_z-of_z}
use Rattle.read_entry.proofs.constant.integer.Goals as goal

pub returns-in-Err : goal.returns-in-Err
returns-in-Err c = rw c.in-Err.is

pub returns-in-Ok : goal.returns-in-Ok
returns-in-Ok c = rw (to_z-of_z {w = w64} (record { sfits = c.signed.type_inv }), c.signed.ensures, c.in-Ok.is)
