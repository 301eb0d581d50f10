-- `line_lookup::deltas::up_to` meets its contract: by the test. Assumes nothing.
use mathlib.Core.Path.{◌≡◌, sym, ap}
use Prim.Native.Nat.{◌+◌, ◌-◌}
use native.Mathlib.Omega.{arith}
use lib.ListN.{take}
use lib.Seq.{take_all}
use Rattle.line_lookup.proofs.deltas.up_to.Goals as goal

pub returns-then-pc-deltas : goal.returns-then-pc-deltas
returns-then-pc-deltas c = let a = c.args in let all : a.pc + 1 - 0 ≡ a.pc + 1 = omega arith in ap (λ n. take n a.deltas.now) all

pub returns : goal.returns
returns c = let a = c.args in let t = c.if-pc-deltas.false in sym (take_all (a.pc + 1) a.deltas.now (omega arith))
