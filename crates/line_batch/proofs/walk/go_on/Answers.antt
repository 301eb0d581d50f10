-- `line_batch::walk::go_on` meets its contract. Assumes nothing.
use mathlib.Core.Path.{◌∙◌, ap}
use native.Mathlib.Omega.{arith}
use lib.ListN.{drop}
use mir.Syntax.{w64}
use mir.Facts.{to_z-of_z}
use Rattle.line_lookup.specs.Inner.Scan.{summed}
use Rattle.line_batch.proofs.Going.{read_kept, short, gone, bounded}
use Rattle.line_batch.proofs.walk.go_on.Goals as goal

pub add_deltas-requires : goal.add_deltas-requires
add_deltas-requires c =
    let kept = read_kept c.args.s.now c.args.deltas.now c.args.pc c.args.first c.take_up-walk.result c.take_up-walk.ensures.0 in
    let low = c.take_up-walk.ensures.1 c.requires.2 in
    let few = c.requires.1 in
    (short c.args.s.now c.args.deltas.now c.args.pc c.args.first c.take_up-walk.result c.take_up-walk.ensures.0 c.up_to-cut.ensures c.requires.0, rw (to_z-of_z {w = w64} {z = c.take_up-walk.result.sum} (record { sfits = omega arith })) (omega arith))

pub overflow_add-result-2 : goal.overflow_add-result-2
overflow_add-result-2 c =
    let kept = read_kept c.args.s.now c.args.deltas.now c.args.pc c.args.first c.take_up-walk.result c.take_up-walk.ensures.0 in
    let few = c.requires.1 in
    let cut = short c.args.s.now c.args.deltas.now c.args.pc c.args.first c.take_up-walk.result c.take_up-walk.ensures.0 c.up_to-cut.ensures c.requires.0 in
    record { fits = omega arith }

pub returns : goal.returns
returns c =
    let a = c.args in
    let low = c.take_up-walk.ensures.1 c.requires.2 in
    let kept = read_kept a.s.now a.deltas.now a.pc a.first c.take_up-walk.result c.take_up-walk.ensures.0 in
    let few = c.requires.1 in
    let adds = c.add_deltas.ensures ∙ ap (λ z. summed z (drop c.take_up-walk.result.at c.up_to-cut.result.now)) (to_z-of_z {w = w64} {z = c.take_up-walk.result.sum} (record { sfits = omega arith })) in
    rw (to_z-of_z {w = w64} {z = c.add_deltas.result} (record { sfits = c.add_deltas.type_inv })) (
      gone a.s.now a.deltas.now a.pc a.first c.take_up-walk.result c.take_up-walk.ensures.0 c.up_to-cut.ensures c.ahead-new.ensures adds,
      bounded a.s.now a.deltas.now a.pc a.first c.take_up-walk.result c.take_up-walk.ensures.0 c.up_to-cut.ensures c.ahead-new.ensures adds low,
    )
