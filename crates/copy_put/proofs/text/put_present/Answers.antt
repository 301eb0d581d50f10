-- `copy_put::text::put_present` meets its contract. Assumes nothing.
use native.Mathlib.Omega.{arith}
use native.Mathlib.Numerals.{add-one}
use lib.ListN.{length-drop}
use Rattle.copy_put.proofs.Writes.{put_then}
use Rattle.copy_put.proofs.text.put_present.Goals as goal

pub returns-then-remaining-len : goal.returns-then-remaining-len
returns-then-remaining-len c = let a = c.args in let none = c.if-remaining-len.true in λ h. absurd (omega (arith, c.remaining.ensures, length-drop a.string.place a.s.now))

pub overflow_add-len : goal.overflow_add-len
overflow_add-len c = let a = c.args in omega (arith, c.if-remaining-len.false, c.remaining.ensures, length-drop a.string.place a.s.now, c.well_formed)

pub returns : goal.returns
returns c = λ h. put_then (rw add-one at c.put_varint-behind.ensures) (c.put_bytes.ensures h)
