-- `read_field::varint::read_groups` meets its contract. The invariant: the whole number is what is read from here on, behind the groups so far (`format`'s `Steps`).
-- Assumes nothing.
use mathlib.Core.Path.{◌≡◌, refl, sym, ◌∙◌, ap}
use Prim.Native.Nat.{◌≤◌}
use Rattle.std.specs.Prelude.{max}
use Rattle.std.proofs.Math.Nat.{le-max_left, le-max_right, max-le}
use native.Mathlib.Omega.{arith}
use lib.ListN.{length}
use Rattle.format.proofs.Steps.{groups-short, groups_overflow, groups-last, groups-more}
use Rattle.read_field.specs.Shown.{shown}
use Rattle.read_field.proofs.varint.read_groups.Goals as goal

pub loop-i-init : goal.loop-i-init
loop-i-init c = (refl, le-max_left _ _)

pub returns-then-value-ge144115188075855871 : goal.returns-then-value-ge144115188075855871
returns-then-value-ge144115188075855871 c =
    let s = c.args.s.now in
    let l = c.loop-i in
    sym (ap shown (l.invariant.0 ∙ groups_overflow s l.i l.value (omega arith) (omega arith)))

pub returns-then-byte-ge128 : goal.returns-then-byte-ge128
returns-then-byte-ge128 c =
    let s = c.args.s.now in
    let l = c.loop-i in
    let w = c.wide-byte in
    sym (ap shown (l.invariant.0 ∙ groups-last s l.i l.value (omega arith) w.result w.ensures.0 (omega arith) (omega arith) (omega arith)))

pub loop-i-preserved : goal.loop-i-preserved
loop-i-preserved c =
    let s = c.args.s.now in
    let l = c.loop-i in
    let w = c.wide-byte in
    (l.invariant.0 ∙ groups-more s l.i l.value (omega arith) w.result w.ensures.0 (omega arith) (omega arith), omega (arith, le-max_right c.args.cursor.at (length s)))

pub returns : goal.returns
returns c =
    let a = c.args in
    let s = a.s.now in
    let l = c.loop-i in
    let before : l.i ≤ max a.cursor.at (length s) = l.invariant.1 in
    let behind : max a.cursor.at (length s) ≤ l.i = max-le (omega arith) (omega arith) in
    let end : l.i ≡ c.max.result = omega (arith, c.max.ensures) in
    rw (c.short.ensures, ← end) (sym (ap shown (l.invariant.0 ∙ groups-short s l.i l.value (omega arith))))
