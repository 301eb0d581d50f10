-- `read_walk::source::unpadded` meets its contract. The invariant: the zeros end where they did from the start (`Unpadded.antt`). Assumes nothing.
use mathlib.Core.Path.{◌≡◌, refl, sym, ◌∙◌}
use Prim.Native.Nat.{◌≤◌}
use Rattle.std.specs.Prelude.{max}
use Rattle.std.proofs.Math.Nat.{le-max_left, le-max_right, max-le}
use native.Mathlib.Omega.{arith}
use lib.ListN.{length}
use Rattle.read_walk.proofs.Unpadded.{zeros-end, zeros-over, zeros-on}
use Rattle.read_walk.proofs.source.unpadded.Goals as goal

pub loop-place-init : goal.loop-place-init
loop-place-init c = (refl, le-max_left _ _)

pub returns-then-s-place-ne0 : goal.returns-then-s-place-ne0
returns-then-s-place-ne0 c =
    zeros-over c.args.s.now c.loop-place.place c.loop-place-test.true c.if-s-place-ne0.true ∙ c.loop-place.invariant.0

pub loop-place-preserved : goal.loop-place-preserved
loop-place-preserved c =
    (sym (zeros-on c.args.s.now c.loop-place.place c.loop-place-test.true c.if-s-place-ne0.false) ∙ c.loop-place.invariant.0, omega (arith, le-max_right c.args.at (length c.args.s.now)))

pub returns : goal.returns
returns c =
    let a = c.args in
    let before : c.loop-place.place ≤ max a.at (length a.s.now) = c.loop-place.invariant.1 in
    let behind : max a.at (length a.s.now) ≤ c.loop-place.place = max-le (omega arith) (omega arith) in
    let end : c.loop-place.place ≡ c.max.result = omega (arith, c.max.ensures) in
    rw (← end) (zeros-end a.s.now c.loop-place.place (omega arith) ∙ c.loop-place.invariant.0)
