-- `slice::bytes::bytes_from` meets its contract: from a place on, or nothing. Assumes nothing.
use mathlib.Core.Path.{◌≡◌, sym}
use Prim.Native.Nat.{◌-◌}
use native.Mathlib.Omega.{arith}
use lib.ListN.{length, drop, length-drop, drop_of_length-le}
use lib.Seq.{take_all}
use Rattle.slice.proofs.bytes.bytes_from.Goals as goal

pub returns-then-place-end : goal.returns-then-place-end
returns-then-place-end c = let a = c.args in let t = c.if-place-end.true in take_all (length a.s.now - a.place) (drop a.place a.s.now) (omega (arith, length-drop a.place a.s.now))

pub returns : goal.returns
returns c =
    let a = c.args in
    let t = c.if-place-end.false in
    let none : length a.s.now - length a.s.now ≡ 0 = omega arith in
    rw none (sym (drop_of_length-le a.s.now {i = a.place} (omega arith)))
