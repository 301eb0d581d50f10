-- `slice::cursor::short` meets its contract: each answer rewrites with the test that led to it. Assumes nothing.
use Prim.Native.Nat.{◌+◌, ◌^◌}
use native.Mathlib.Omega.{arith}
use borrow.Author.Tests.{lt-ltb, le-ltb}
use Rattle.slice.proofs.cursor.short.Goals as goal

pub returns-then-n-at : goal.returns-then-n-at
returns-then-n-at c = let a = c.args in rw (lt-ltb (a.at + a.n) (2 ^ 64) (omega arith))

pub returns-else-n-at : goal.returns-else-n-at
returns-else-n-at c = let a = c.args in rw (le-ltb (a.at + a.n) (2 ^ 64) (omega arith))
