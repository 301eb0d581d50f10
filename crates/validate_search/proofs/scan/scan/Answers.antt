-- `validate_search::scan::scan` meets its contract: by the laws of where the loop stands (`Laws.antt`). Assumes nothing.
use mathlib.Core.Path.{refl, sym, ap, ◌∙◌}
use native.Mathlib.Omega.{arith}
use Rattle.validate_rules.specs.Inner.Judged.{group_of}
use Rattle.validate_search.proofs.Laws.{word_there, passes, finds, ends}
use Rattle.validate_search.proofs.scan.scan.Goals as goal
use Rattle.std.proofs.Common.{rules}

pub returns-then-end-c : goal.returns-then-end-c
returns-then-end-c c =
    let a = c.args in
    ends a.s.now a.c _ a.c.place.at a.c.pc (refl, c.code_end-end.ensures) c.if-end-c.true

pub u32_at-word-requires : goal.u32_at-word-requires
u32_at-word-requires c =
    let a = c.args in
    word_there a.s.now a.c _ c.loop-pc.at c.loop-pc.pc c.loop-pc.invariant (omega arith)

pub overflow_add-behind : goal.overflow_add-behind
overflow_add-behind c =
    let there = word_there c.args.s.now c.args.c _ c.loop-pc.at c.loop-pc.pc c.loop-pc.invariant (omega arith) in
    omega (arith, c.well_formed.0.0)

pub returns-in-Some : goal.returns-in-Some
returns-in-Some c =
    let a = c.args in
    finds a.s.now a.c _ c.loop-pc.at c.loop-pc.pc c.loop-pc.invariant (omega arith) _ c.u32_at-word.ensures _ _ (sym c.judge.ensures ∙ ap group_of c.in-Some.is)

pub overflow_add-at : goal.overflow_add-at
overflow_add-at c =
    let there = word_there c.args.s.now c.args.c _ c.loop-pc.at c.loop-pc.pc c.loop-pc.invariant (omega arith) in
    omega (arith, c.well_formed.0.0)

pub loop-pc-preserved : goal.loop-pc-preserved
loop-pc-preserved c =
    let a = c.args in
    passes a.s.now a.c _ c.loop-pc.at c.loop-pc.pc c.loop-pc.invariant (omega arith) _ c.u32_at-word.ensures
    (search rules)

pub returns : goal.returns
returns c = let a = c.args in
    ends a.s.now a.c _ c.loop-pc.at c.loop-pc.pc c.loop-pc.invariant (omega arith)
