-- The answers of `copy_in_full`, which calls itself for the functions that nest in it: what its returns show and have put is in copy_walk's Nested.antt, of the source in Sources.antt and Full.antt.
-- Assumes nothing.
use Rattle.std.proofs.lemmas.Result.{err_from_is_err_and}
use Prim.Native.Nat.{◌-◌}
use mathlib.Core.Path.{refl, ◌∙◌}
use native.Mathlib.Omega.{arith}
use Rattle.read_walk.proofs.SoFar.{level}
use Rattle.copy_walk.proofs.Tails.{part_kept}
use Rattle.copy_walk.proofs.Functions as copied
use Rattle.copy_walk.proofs.Functions.{counted_total}
use Rattle.copy_walk.proofs.Loops.{as_many}
use Rattle.copy_walk.proofs.Nested as nested
use Rattle.copy_full_walk.specs.Inner.Walk.{full_bytes}
use Rattle.copy_full_walk.proofs.Full.{full, asks, single, made}
use Rattle.copy_full_walk.proofs.Sources.{handed_down, its_written}
use Rattle.copy_full_walk.proofs.walk.+copy_in_full.Goals as goal

-- a head that was read, before what follows it
pub overflow_add-nested-2 : goal.overflow_add-nested-2
overflow_add-nested-2 t c =
    let a = c.args in
    let begun = c.in_ok-begun.begun in
    let few = counted_total a.s.now a.limits a.from.instructions a.from.next.at begun.counts begun.next c.in_ok-begun.ensures.begins_value in
    let limit = c.requires.0.1 in
    omega (arith, few, limit)

pub loop-init : goal.loop-init
loop-init t c =
    let a = c.args in
    let begun = c.in_ok-begun.begun in
    (refl, λ w n i. as_many (omega arith) (nested.begins a.s.now a.limits a.left a.from begun.counts begun.next c.in_ok-begun.ensures.begins_value full (asks a.limits a.s.now c.source_of-source.result.own) _ _ w n i))

pub returns-then-left-eq0 : goal.returns-then-left-eq0
returns-then-left-eq0 t c =
    let a = c.args in
    let begun = c.in_ok-begun.begun in
    let told =
    nested.deep a.s.now a.limits a.left a.from begun.counts begun.next c.in_ok-begun.ensures.begins_value full (asks a.limits a.s.now c.source_of-source.result.own) c.loop.invariant.1
    (omega arith) c.if-left-eq0.true in
    record { walk_value = told; puts_function = λ w n i parent bytes. tt }

pub returns-then-limits-nested : goal.returns-then-limits-nested
returns-then-limits-nested t c =
    let a = c.args in
    let begun = c.in_ok-begun.begun in
    let told =
    nested.many a.s.now a.limits a.left a.from begun.counts begun.next c.in_ok-begun.ensures.begins_value full (asks a.limits a.s.now c.source_of-source.result.own) c.loop.invariant.1
    (omega arith) (level a.left c.if-left-eq0.false) c.if-limits-nested.true in
    record { walk_value = told; puts_function = λ w n i parent bytes. tt }

pub returns-in_err-one : goal.returns-in_err-one
returns-in_err-one t c =
    let a = c.args in
    let begun = c.in_ok-begun.begun in
    let told =
    nested.stops a.s.now a.limits a.left a.from begun.counts begun.next c.in_ok-begun.ensures.begins_value full (asks a.limits a.s.now c.source_of-source.result.own) c.loop.invariant.1
    (omega arith) (level a.left c.if-left-eq0.false) c.if-limits-nested.false c.in_err-one.ensures.walk_value in
    let p = err_from_is_err_and c.from_residual-in_err-one.result c.from_residual-in_err-one.ensures.1 in
    rw (p.1, p.2) (record { walk_value = told; puts_function = λ w n i parent bytes. tt })

pub loop-preserved : goal.loop-preserved
loop-preserved t c =
    let a = c.args in
    let begun = c.in_ok-begun.begun in
    let one = c.copy_in_full in (
      part_kept c.loop.len _ c.loop.out one.new.out c.within-start.ensures one.auto.out ∙ c.loop.invariant.0,
      λ w n i. as_many {more = begun.counts.protos - c.loop.counter - 1} (omega arith) (nested.goes_on a.s.now a.limits a.left a.from begun.counts begun.next c.in_ok-begun.ensures.begins_value full (asks a.limits a.s.now c.source_of-source.result.own) c.loop.invariant.1
          (omega arith) (level a.left c.if-left-eq0.false) c.if-limits-nested.false
          single (λ _ holds. holds.1) c.in_ok-one.ensures.walk_value c.within-start.ensures
          (λ w n i holds. c.in_ok-one.ensures.puts_function w n i holds.0 holds.1) c.plus-len.ensures w n i),
    )

pub returns-in_err-begun : goal.returns-in_err-begun
returns-in_err-begun t c =
    let a = c.args in
    let told = nested.head-refused a.s.now a.limits a.left a.from c.in_err-begun.ensures.begins_value in
    let p = err_from_is_err_and c.from_residual.result c.from_residual.ensures.1 in
    rw (p.1, p.2) (record { walk_value = told; puts_function = λ w n i parent bytes. tt })

pub returns : goal.returns
returns t c =
    let a = c.args in
    let begun = c.in_ok-begun.begun in
    let all =
    nested.ends a.s.now a.limits a.left a.from begun.counts begun.next c.in_ok-begun.ensures.begins_value full (asks a.limits a.s.now c.source_of-source.result.own) c.loop.invariant.1
    (λ w. asks a.limits a.s.now a.parent w.source) (λ w. full_bytes w.source) c.source_of-source.result.written c.copy_end.result (omega arith)
    (λ w i asked.
    let read = (copied.headed a.s.now a.limits a.left w a.from.next.at i begun.counts begun.next c.in_ok-begun.ensures.begins_value).is in
    let is = c.source_of-source.ensures in (
      asked.1,
      (handed_down a.limits a.from.instructions a.from.next.at a.s.now read a.parent is w.source asked.0, asked.1),
      λ x end ps. made c.source_of-source.result.written w a.from.next.at _ x end ps (its_written a.limits a.from.instructions a.from.next.at a.s.now read a.parent is w.source asked.0),
    ))
    c.in_ok-begun.ensures.puts_head
    c.copy_end.ensures.upvalues_value c.copy_end.ensures.walk_value c.copy_end.ensures.puts_tail in
    record { walk_value = all.walk_value; puts_function = λ w n i parent bytes. all.puts_function w n i (parent, bytes) }
