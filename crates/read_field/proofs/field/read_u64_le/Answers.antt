-- `read_field::field::read_u64_le` meets its contract: by whether as many bytes are there. Assumes nothing.
use native.Mathlib.Omega.{arith}
use lib.ListN.{drop, length-drop}
use Rattle.format.proofs.Steps.{field-short, field_enough}
use Rattle.read_field.proofs.field.read_u64_le.Goals as goal

pub returns-then-remaining-lt8 : goal.returns-then-remaining-lt8
returns-then-remaining-lt8 c = let a = c.args in rw (c.short.ensures, field-short 8 a.cursor.at (drop a.cursor.at a.s.now) (omega arith))

pub u64_at-requires : goal.u64_at-requires
u64_at-requires c = let a = c.args in omega (arith, length-drop a.cursor.at a.s.now)

pub overflow_add-result : goal.overflow_add-result
overflow_add-result c = let a = c.args in omega (arith, length-drop a.cursor.at a.s.now)

pub returns : goal.returns
returns c = let a = c.args in rw (c.u64_at.ensures, field_enough 8 a.cursor.at (drop a.cursor.at a.s.now) (omega arith))
