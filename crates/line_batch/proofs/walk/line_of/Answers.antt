-- `line_batch::walk::line_of` meets its contract. Assumes nothing.
use mathlib.Core.Path.{◌∙◌, ap, ap₂}
use lib.IntN.{◌+ℤ◌}
use Rattle.line_lookup.specs.Lines.{raised}
use native.Mathlib.Omega.{arith}
use mir.Syntax.{w64}
use mir.Val.{SFits, to_z, of_z}
use mir.Facts.{to_z_pos, to_z-of_z}
use Rattle.line_batch.proofs.Going.{none-there, some_there, line-fits}
use Rattle.line_batch.proofs.walk.line_of.Goals as goal

pub returns-then-deltas-eq0 : goal.returns-then-deltas-eq0
returns-then-deltas-eq0 c = let a = c.args in none-there a.deltas.now a.walk.from a.walk.sum c.if-deltas-eq0.true

pub overflow_add-walk : goal.overflow_add-walk
overflow_add-walk c =
    let low = c.requires.0 in
    let sum = c.requires.1 in
    rw (to_z_pos w64 {n = c.args.walk.from} (omega arith), to_z-of_z {w = w64} {z = c.args.walk.sum} (record { sfits = omega arith })) (line-fits c.args.walk.from c.args.walk.sum low sum)

pub returns : goal.returns
returns c =
    let low = c.requires.0 in
    let sum = c.requires.1 in
    let from_is = to_z_pos w64 {n = c.args.walk.from} (omega arith) in
    let sum_is_lem = to_z-of_z {w = w64} {z = c.args.walk.sum} (record { sfits = omega arith }) in
    let both = ap₂ ◌+ℤ◌ from_is sum_is_lem in
    let fits : SFits w64 (to_z w64 c.args.walk.from +ℤ to_z w64 (of_z w64 c.args.walk.sum)) = rw (from_is, sum_is_lem) (line-fits c.args.walk.from c.args.walk.sum low sum) in
    c.raise.ensures ∙ ap raised (to_z-of_z {w = w64} fits ∙ both) ∙ some_there c.args.deltas.now c.args.walk.from c.args.walk.sum c.if-deltas-eq0.false
