-- `read_field::field::read_u8` meets its contract: by whether a byte is there. Assumes nothing.
use native.Mathlib.Omega.{arith}
use lib.ListN.{drop, length-drop}
use Rattle.format.proofs.Steps.{field-short, field_enough}
use Rattle.slice.proofs.Fields.{one}
use Rattle.read_field.proofs.field.read_u8.Goals as goal

pub returns-then-at-s : goal.returns-then-at-s
returns-then-at-s c = let a = c.args in
    rw (field_enough 1 a.cursor.at (drop a.cursor.at a.s.now) (omega (arith, length-drop a.cursor.at a.s.now)), one a.cursor.at a.s.now (omega arith))

pub returns : goal.returns
returns c = let a = c.args in rw (c.short.ensures, field-short 1 a.cursor.at (drop a.cursor.at a.s.now) (omega (arith, length-drop a.cursor.at a.s.now)))
