-- `copy_put::number::put_varint` meets its contract: the groups above the last, and the last behind them (`Stores.antt`). Assumes nothing.
use mathlib.Core.Path.{ap, ◌∙◌}
use Prim.Native.Nat.{◌-◌}
use native.Mathlib.Omega.{arith}
use Rattle.copy_put.proofs.Stores.{size_pos, number-stored}
use Rattle.copy_put.proofs.Writes.{put-room, put-none}
use Rattle.copy_put.proofs.number.put_varint.Goals as goal

pub returns-then-out-at : goal.returns-then-out-at
returns-then-out-at c = let full = c.if-out-at.true in put-none (omega arith) (λ small. c.plus.ensures (omega arith) ∙ omega arith)

pub returns-then-out-at-2 : goal.returns-then-out-at-2
returns-then-out-at-2 c = let full = c.if-out-at-2.true in put-none (omega arith) (λ small. c.plus-then-out-at-2.ensures (omega arith) ∙ omega arith)

pub overflow_sub-last : goal.overflow_sub-last
overflow_sub-last c = omega (arith, c.varint_len-len.ensures, size_pos c.args.v)

pub overflow_sub-len : goal.overflow_sub-len
overflow_sub-len c = omega (arith, c.varint_len-len.ensures, size_pos c.args.v)

pub bounds-out-last : goal.bounds-out-last
bounds-out-last c =
    let room = c.if-out-at-2.false in
    let inside = c.if-out-at.false in
    omega (arith, c.store_groups.auto.out, c.varint_len-len.ensures, size_pos c.args.v)

pub returns : goal.returns
returns c =
    let room = c.if-out-at-2.false in
    let inside = c.if-out-at.false in
    put-room (omega arith) (omega arith) (number-stored _ c.args.v _ _ _ (omega arith) (ap (λ k. k - 1) c.varint_len-len.ensures) c.store_groups.ensures)
