-- `read_entry::runs::skip_words` meets its contract: by how many words are there (`FixedWidth.antt`). Assumes nothing.
use Prim.Native.Nat.{◌/◌}
use native.Mathlib.Omega.{arith}
use lib.ListN.{drop, length-drop}
use Rattle.read_entry.proofs.FixedWidth.{fields_enough, fields_short}
use Rattle.read_entry.proofs.runs.skip_words.Goals as goal

pub overflow_add-result : goal.overflow_add-result
overflow_add-result c = let a = c.args in omega (arith, length-drop a.cursor.at a.s.now)

pub returns-then-n-there : goal.returns-then-n-there
returns-then-n-there c = let a = c.args in fields_enough 4 a.n a.cursor.at (drop a.cursor.at a.s.now) (omega arith)

pub overflow_add-at : goal.overflow_add-at
overflow_add-at c = let a = c.args in omega (arith, length-drop a.cursor.at a.s.now)

pub returns : goal.returns
returns c = let a = c.args in
    rw c.short.ensures (fields_short 4 (c.remaining-there.result / 4) a.n a.cursor.at (drop a.cursor.at a.s.now) (omega arith) (omega arith) (omega arith))
