-- `copy_put::raw::put_bytes` meets its contract. Assumes nothing.
use native.Mathlib.Omega.{arith}
use lib.ListN.{length-drop}
use Rattle.copy_put.proofs.Writes.{part_none, part_room}
use Rattle.copy_put.proofs.raw.put_bytes.Goals as goal

pub returns-then-remaining-len : goal.returns-then-remaining-len
returns-then-remaining-len c = let a = c.args in let short = c.if-remaining-len.true in λ there. absurd (omega (arith, c.remaining.ensures, length-drop a.start a.s.now))

pub returns-then-out-at : goal.returns-then-out-at
returns-then-out-at c = let a = c.args in let full = c.if-out-at.true in λ there. part_none a.s.now a.start a.len there (omega arith) c.plus.ensures

pub returns-then-out-at-2 : goal.returns-then-out-at-2
returns-then-out-at-2 c = let a = c.args in let full = c.if-out-at-2.true in λ there. part_none a.s.now a.start a.len there (omega arith) c.plus-then-out-at-2.ensures

pub copy_bytes-requires : goal.copy_bytes-requires
copy_bytes-requires c = let a = c.args in
    let there = c.if-remaining-len.false in
    let room = c.if-out-at-2.false in
    let inside = c.if-out-at.false in
    (omega (arith, c.remaining.ensures, length-drop a.start a.s.now), omega arith)

pub returns : goal.returns
returns c = let room = c.if-out-at-2.false in
    let inside = c.if-out-at.false in
    let a = c.args in
    λ there. part_room a.s.now a.start a.len there (omega arith) c.copy_bytes.ensures
