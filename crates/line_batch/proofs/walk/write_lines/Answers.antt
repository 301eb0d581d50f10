-- `line_batch::walk::write_lines` meets its contract. The invariant: what is written in the end from here on is what is written from the start on (`Writing.antt`).
-- Assumes nothing.
use mathlib.Core.Path.{◌≡◌, refl, sym, ◌∙◌, ap}
use Prim.Native.Nat.{◌≤◌, ◌<◌}
use native.Mathlib.Omega.{arith}
use lib.ListN.{length, get_or, length-set}
use Rattle.format.specs.Limits.{MOST}
use Rattle.line_batch.specs.Inner.Walk.{forward, line_in}
use Rattle.line_batch.specs.Inner.Steps.{step_of}
use Rattle.line_batch.proofs.Writing.{this_one, written_on, read-on, written_all, read_all}
use Rattle.line_batch.proofs.walk.write_lines.Goals as goal

pub loop-k-init : goal.loop-k-init
loop-k-init c = (refl, refl, refl, c.requires.2, c.requires.3)

pub go_on-walk-requires : goal.go_on-walk-requires
go_on-walk-requires c =
    let a = c.args in
    let w = this_one a.deltas.now (step_of a.s.now c.loop-k.walk) a.pcs.now c.loop-k.k c.loop-k-test.true c.loop-k.invariant.4 in
    (c.requires.0, w.0, c.loop-k.invariant.3)

pub line_of-requires : goal.line_of-requires
line_of-requires c =
    let a = c.args in
    let w = this_one a.deltas.now (step_of a.s.now c.loop-k.walk) a.pcs.now c.loop-k.k c.loop-k-test.true c.loop-k.invariant.4 in
    let went = c.go_on-walk.ensures.0 in
    let sum = c.go_on-walk.ensures.1 in
    let from : c.go_on-walk.result.from ≤ 4611686018427387904 = rw (ap (λ z. z.from) went) w.1 in
    let few : c.go_on-walk.result.read ≤ MOST = rw (ap (λ z. z.read) went) w.2 in
    (from, omega arith)

pub bounds-lines-k : goal.bounds-lines-k
bounds-lines-k c =
    let room = c.requires.1 in
    let size = c.loop-k.invariant.0 in
    let taken = c.loop-k-test.true in
    omega arith

pub loop-k-preserved : goal.loop-k-preserved
loop-k-preserved c =
    let a = c.args in
    let z = step_of a.s.now c.loop-k.walk in
    let taken = c.loop-k-test.true in
    let went = c.go_on-walk.ensures.0 in
    let w = this_one a.deltas.now z a.pcs.now c.loop-k.k taken c.loop-k.invariant.4 in
    let room : c.loop-k.k < length c.loop-k.lines = let all = c.requires.1 in let size = c.loop-k.invariant.0 in omega arith in
    let line : c.line_of.result ≡ line_in a.deltas.now (forward a.deltas.now (get_or a.pcs.now c.loop-k.k 0) z) = c.line_of.ensures ∙ ap (line_in a.deltas.now) went in (
      length-set c.loop-k.lines c.loop-k.k c.line_of.result ∙ c.loop-k.invariant.0,
      rw (went, line) (written_on a.deltas.now z a.pcs.now c.loop-k.k taken c.loop-k.lines room ∙ c.loop-k.invariant.1),
      rw went (read-on a.deltas.now z a.pcs.now c.loop-k.k taken ∙ c.loop-k.invariant.2),
      c.go_on-walk.ensures.1,
      rw went w.3,
    )

pub shape_of-lines : goal.shape_of-lines
shape_of-lines c = c.loop-k.invariant.0

pub returns : goal.returns
returns c =
    let a = c.args in
    let z = step_of a.s.now c.loop-k.walk in
    let over = c.loop-k-test.false in record { lines_after = sym (written_all a.deltas.now z a.pcs.now c.loop-k.k over c.loop-k.lines) ∙ c.loop-k.invariant.1; value = ap (λ z. z.read) (sym (read_all a.deltas.now z a.pcs.now c.loop-k.k over) ∙ c.loop-k.invariant.2) }
