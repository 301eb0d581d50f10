-- `line_batch::numbered::write_numbered` meets its contract. The invariant: what is left to write (`Writing.antt`). Assumes nothing.
use mathlib.Core.Path.{◌≡◌, sym, ◌∙◌, ap}
use mathlib.Core.List.{◌∷◌}
use Prim.Native.Nat.{◌+◌, ◌<◌}
use native.Mathlib.Omega.{arith}
use lib.ListN.{length, drop}
use Rattle.line_batch.specs.Inner.Anchors.{anchors_of}
use Rattle.line_batch.specs.Inner.Numbered.{passed_by, none_passed, numbered_from}
use Rattle.line_batch.proofs.Writing.{none_numbered, no_more, one_numbered, at_first, ended, goes_on_lem}
use Rattle.line_batch.proofs.numbered.write_numbered.Goals as goal

pub loop-k-init : goal.loop-k-init
loop-k-init c = let a = c.args in at_first (numbered_from a.all.left (none_passed (anchors_of a.s.now a.all)) a.pcs.now) a.lines.now

pub shape_of-lines-then-pc-all : goal.shape_of-lines-then-pc-all
shape_of-lines-then-pc-all c = c.loop-k.invariant.same

pub returns-then-pc-all : goal.returns-then-pc-all
returns-then-pc-all c = let a = c.args in let both = ended c.loop-k.invariant (none_numbered a.all.left (passed_by a.s.now c.loop-k.z) a.pcs.now c.loop-k.k c.loop-k-test.true c.if-pc-all.true) in record { lines_after = both.0; value = both.1 }

pub pass_to-z-requires : goal.pass_to-z-requires
pass_to-z-requires c = let fits = c.struct_known-1.given in
    let below = c.if-pc-all.false in
    omega arith

pub bounds-lines-k : goal.bounds-lines-k
bounds-lines-k c = let size = c.loop-k.invariant.same in
    let taken = c.loop-k-test.true in
    omega arith

pub loop-k-preserved : goal.loop-k-preserved
loop-k-preserved c = let a = c.args in
    let room : c.loop-k.k < length c.loop-k.lines = let size = c.loop-k.invariant.same in let taken = c.loop-k-test.true in omega arith in
    let z = passed_by a.s.now c.loop-k.z in
    let e = one_numbered a.all.left z a.pcs.now c.loop-k.k c.loop-k-test.true c.if-pc-all.false in
    goes_on_lem c.loop-k.invariant _ _ (e ∙ ap (λ y. y.line ∷ numbered_from a.all.left y (drop (c.loop-k.k + 1) a.pcs.now)) (sym c.pass_to-z.ensures)) room

pub shape_of-lines : goal.shape_of-lines
shape_of-lines c = c.loop-k.invariant.same

pub returns : goal.returns
returns c =
    let a = c.args in
    let both = ended c.loop-k.invariant (no_more a.all.left (passed_by a.s.now c.loop-k.z) a.pcs.now c.loop-k.k c.loop-k-test.false) in
    let all : length a.pcs.now ≡ c.loop-k.k = omega arith in
    record { lines_after = both.0; value = all ∙ both.1 }
