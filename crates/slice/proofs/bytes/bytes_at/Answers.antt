-- `slice::bytes::bytes_at` meets its contract: a part of the part from its place on. Assumes nothing.
use mathlib.Core.Path.{◌≡◌, sym, ◌∙◌, ap}
use Prim.Native.Nat.{◌-◌, ◌≤◌}
use native.Mathlib.Omega.{arith}
use lib.ListN.{length, take, drop}
use lib.Seq.{take_all}
use Rattle.slice.proofs.bytes.bytes_at.Goals as goal

pub returns-then-len-rest : goal.returns-then-len-rest
returns-then-len-rest c =
    let a = c.args in
    let all : a.len - 0 ≡ a.len = omega arith in
    ap (λ n. take n c.bytes_from-rest.result.now) all ∙ ap (take a.len) c.bytes_from-rest.ensures

pub returns : goal.returns
returns c =
    let a = c.args in
    let t = c.if-len-rest.false in
    let within : length c.bytes_from-rest.result.now ≤ a.len = omega arith in
    let short : length (drop a.place a.s.now) ≤ a.len = rw c.bytes_from-rest.ensures at within in
    c.bytes_from-rest.ensures ∙ sym (take_all a.len (drop a.place a.s.now) short)
