-- `slice::cursor::remaining` meets its contract. Assumes nothing.
use native.Mathlib.Omega.{arith}
use lib.ListN.{length-drop}
use Rattle.slice.proofs.cursor.remaining.Goals as goal

pub returns-then-at-s : goal.returns-then-at-s
returns-then-at-s c = rw length-drop

pub returns-else-at-s : goal.returns-else-at-s
returns-else-at-s c = rw length-drop (omega arith)
