-- `slice::cursor::read_exact` meets its contract: by whether as many bytes are there. Assumes nothing.
use native.Mathlib.Omega.{arith}
use lib.ListN.{drop, length-drop}
use Rattle.format.proofs.Steps.{run_short, run_enough}
use Rattle.slice.proofs.cursor.read_exact.Goals as goal

pub returns-then-remaining-n : goal.returns-then-remaining-n
returns-then-remaining-n c = let a = c.args in rw (c.short.ensures, run_short a.n a.cursor.at (drop a.cursor.at a.s.now) (omega arith))

pub overflow_add-result : goal.overflow_add-result
overflow_add-result c = let a = c.args in omega (arith, length-drop a.cursor.at a.s.now)

pub returns : goal.returns
returns c = let a = c.args in rw (run_enough a.n a.cursor.at (drop a.cursor.at a.s.now) (omega arith))
