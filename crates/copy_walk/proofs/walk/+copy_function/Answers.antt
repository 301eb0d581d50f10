-- The answers of `copy_function`, which calls itself for the functions that nest in it: what its returns show and have put is in Nested.antt.
-- Assumes nothing.
use Rattle.std.proofs.lemmas.Result.{err_from_is_err_and}
use Prim.Native.Nat.{◌-◌}
use mathlib.Core.Path.{refl, sym, ◌∙◌}
use mathlib.Core.Bool.{true≢false}
use native.Mathlib.Omega.{arith}
use Rattle.format.specs.Form.{Below}
use Rattle.read_walk.proofs.SoFar.{level}
use Rattle.copy_parts.specs.Inner.Parts.{function_bytes}
use Rattle.copy_walk.proofs.Tails.{part_kept}
use Rattle.copy_walk.proofs.Archive.{archive, asks, single, made}
use Rattle.copy_walk.proofs.Functions.{counted_total}
use Rattle.copy_walk.proofs.Loops.{as_many}
use Rattle.copy_walk.proofs.Nested as nested
use Rattle.copy_walk.proofs.walk.+copy_function.Goals as goal

-- a head that was read, before what follows it
pub overflow_add-nested-2 : goal.overflow_add-nested-2
overflow_add-nested-2 t c =
    let a = c.args in
    let begun = c.in_ok-begun.begun in
    let few = counted_total a.s.now a.limits a.from.instructions a.from.next.at begun.counts begun.next c.in_ok-begun.ensures.begins_value in
    let limit = c.requires.0.1 in
    omega (arith, few, limit)

pub loop-init : goal.loop-init
loop-init t c =
    let a = c.args in
    let begun = c.in_ok-begun.begun in
    (refl, λ w n i. as_many (omega arith) (nested.begins a.s.now a.limits a.left a.from begun.counts begun.next c.in_ok-begun.ensures.begins_value archive (λ _. Below 256 a.s.now) _ _ w n i))

pub returns-then-left-eq0 : goal.returns-then-left-eq0
returns-then-left-eq0 t c =
    let a = c.args in
    let begun = c.in_ok-begun.begun in
    let told =
    nested.deep a.s.now a.limits a.left a.from begun.counts begun.next c.in_ok-begun.ensures.begins_value archive (λ _. Below 256 a.s.now) c.loop.invariant.1
    (omega arith) c.if-left-eq0.true in
    record { walk_value = told; puts_function = λ w n i main bytes. tt }

pub returns-then-limits-nested : goal.returns-then-limits-nested
returns-then-limits-nested t c =
    let a = c.args in
    let begun = c.in_ok-begun.begun in
    let told =
    nested.many a.s.now a.limits a.left a.from begun.counts begun.next c.in_ok-begun.ensures.begins_value archive (λ _. Below 256 a.s.now) c.loop.invariant.1
    (omega arith) (level a.left c.if-left-eq0.false) c.if-limits-nested.true in
    record { walk_value = told; puts_function = λ w n i main bytes. tt }

pub returns-in_err-one : goal.returns-in_err-one
returns-in_err-one t c =
    let a = c.args in
    let begun = c.in_ok-begun.begun in
    let told =
    nested.stops a.s.now a.limits a.left a.from begun.counts begun.next c.in_ok-begun.ensures.begins_value archive (λ _. Below 256 a.s.now) c.loop.invariant.1
    (omega arith) (level a.left c.if-left-eq0.false) c.if-limits-nested.false c.in_err-one.ensures.walk_value in
    let p = err_from_is_err_and c.from_residual-in_err-one.result c.from_residual-in_err-one.ensures.1 in
    rw (p.1, p.2) (record { walk_value = told; puts_function = λ w n i main bytes. tt })

pub loop-preserved : goal.loop-preserved
loop-preserved t c =
    let a = c.args in
    let begun = c.in_ok-begun.begun in
    let one = c.copy_function in (
      part_kept c.loop.len _ c.loop.out one.new.out c.within-start.ensures one.auto.out ∙ c.loop.invariant.0,
      λ w n i. as_many {more = begun.counts.protos - c.loop.counter - 1} (omega arith) (nested.goes_on a.s.now a.limits a.left a.from begun.counts begun.next c.in_ok-begun.ensures.begins_value archive (λ _. Below 256 a.s.now) c.loop.invariant.1
          (omega arith) (level a.left c.if-left-eq0.false) c.if-limits-nested.false
          single (λ _ bytes. bytes) c.in_ok-one.ensures.walk_value c.within-start.ensures
          (λ w n i bytes. c.in_ok-one.ensures.puts_function w n i (λ f. absurd (true≢false (sym f))) bytes) c.plus-len.ensures w n i),
    )

pub returns-in_err-begun : goal.returns-in_err-begun
returns-in_err-begun t c =
    let a = c.args in
    let told = nested.head-refused a.s.now a.limits a.left a.from c.in_err-begun.ensures.begins_value in
    let p = err_from_is_err_and c.from_residual.result c.from_residual.ensures.1 in
    rw (p.1, p.2) (record { walk_value = told; puts_function = λ w n i main bytes. tt })

pub returns : goal.returns
returns t c =
    let a = c.args in
    let begun = c.in_ok-begun.begun in
    let all =
    nested.ends a.s.now a.limits a.left a.from begun.counts begun.next c.in_ok-begun.ensures.begins_value archive (λ _. Below 256 a.s.now) c.loop.invariant.1
    (asks a.named a.s.now) (λ w. function_bytes a.named) a.named c.copy_end.result (omega arith)
    (λ w i asked. (asked.1, asked.1, λ x end ps. made a.named w a.from.next.at _ x end ps asked.0))
    c.in_ok-begun.ensures.puts_head
    c.copy_end.ensures.upvalues_value c.copy_end.ensures.walk_value c.copy_end.ensures.puts_tail in
    record { walk_value = all.walk_value; puts_function = λ w n i main bytes. all.puts_function w n i (main, bytes) }
