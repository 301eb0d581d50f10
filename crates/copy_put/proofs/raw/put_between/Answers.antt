-- `copy_put::raw::put_between` meets its contract. Assumes nothing.
use native.Mathlib.Omega.{arith}
use Rattle.copy_put.proofs.raw.put_between.Goals as goal

pub returns-then-end-first : goal.returns-then-end-first
returns-then-end-first c = let none = c.if-end-first.true in λ h k. absurd (omega arith)

pub returns : goal.returns
returns c = λ h k. c.put_bytes.ensures (omega arith)
