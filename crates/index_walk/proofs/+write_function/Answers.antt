-- `write_function` meets its contract. What each return shows is in read_walk's Passes.antt and SoFar.antt, what it has written in Rows.antt.
-- Assumes nothing.
use Rattle.std.proofs.lemmas.Result.{err_from_is_err_and}
use Rattle.std.specs.Prelude.{Ok, Err}
use Prim.Native.Nat.{ℕ, ◌+◌, ◌-◌}
use mathlib.Core.Path.{◌≡◌, refl, sym, ◌∙◌}
use lib.ListN.{length, drop}
use native.Mathlib.Omega.{arith}
use borrow.Author.Rules.{rules}
use Rattle.format.specs.declared.refusal.Refusal.{Refusal}
use Rattle.format.specs.GrammarChunk.{Where}
use Rattle.format.specs.ReadChunk.{function}
use Rattle.read_prototype.specs.Parts as parts
use Rattle.read_prototype.specs.Inner.Counts.{head_counts_result}
use Rattle.read_walk.specs.declared.walk.Skimmed.{Skimmed}
use Rattle.read_walk.specs.Inner.Skim.{on, skim_result}
use Rattle.read_walk.proofs.HeadTail.{counts_total}
use Rattle.read_walk.proofs.Passes as passes
use Rattle.read_walk.proofs.SoFar as so_far
use Rattle.read_walk.proofs.SoFar.{level}
use Rattle.index_walk.proofs.Rows.{refuses, function-wrote, starts-behind, as_many, ends_behind, on-behind}
use Rattle.index_walk.proofs.+write_function.Goals as goal
use Rattle.index_walk.proofs.+write_function.Goals.{In_ok-head}

-- behind the head: what it gave, and where the nested functions stand
begun : (t : ℕ) (c : In_ok-head t)
    → Ok (c.in_ok-head.head, c.in_ok-head.behind) ≡ head_counts_result (parts.head c.args.limits c.args.from.instructions c.args.from.next.at (drop c.args.from.next.at c.args.s.now))
begun t c = sym c.in_ok-head.was ∙ c.pass_head.ensures.value

abbrev stand : (t : ℕ) → In_ok-head t → Skimmed
stand t c = record { next = c.in_ok-head.behind; number = c.args.from.number + 1; instructions = c.args.from.instructions + c.in_ok-head.head.instructions }

module _ (t : ℕ) (c : In_ok-head t) (w : Where) (i : c.args.from.instructions ≡ w.instructions) where
  abbrev place : Where
  place = passes.first c.args.s.now c.args.limits c.args.left w c.args.from.next.at i c.in_ok-head.head c.in_ok-head.behind (begun t c)

  so_many : c.args.from.instructions + c.in_ok-head.head.instructions ≡ place.instructions
  so_many = passes.first_instructions c.args.s.now c.args.limits c.args.left w c.args.from.next.at i c.in_ok-head.head c.in_ok-head.behind (begun t c)

  refused_inside : (q : Refusal) → Err q ≡ skim_result place (passes.inner c.args.s.now c.args.limits c.args.left w c.args.from.next.at i c.in_ok-head.head c.in_ok-head.behind (begun t c))
      → Err q ≡ skim_result w (function c.args.limits c.args.left w c.args.from.next.at (drop c.args.from.next.at c.args.s.now))
  refused_inside = passes.nested_refused c.args.s.now c.args.limits c.args.left w c.args.from.next.at i c.in_ok-head.head c.in_ok-head.behind (begun t c)

pub overflow_add-nested-2 : goal.overflow_add-nested-2
overflow_add-nested-2 t c =
    let a = c.args in
    let e = counts_total a.s.now a.limits a.from.instructions a.from.next.at c.in_ok-head.head c.in_ok-head.behind (begun t (goal.at.overflow_add-nested-2 t c).In_ok-head) in
    let limit = c.requires.0.1 in
    omega (arith, e, limit)

pub loop-init : goal.loop-init
loop-init t c =
    let a = c.args in
    (refl, as_many (omega arith) (starts-behind a.s.now a.limits c.in_ok-head.head.protos a.left (a.depth + 1) a.from.number (stand t (goal.at.loop-init t c).In_ok-head) c.put_head.new.rows))

pub returns-then-left-eq0 : goal.returns-then-left-eq0
returns-then-left-eq0 t c =
    let a = c.args in
    let h = (goal.at.returns-then-left-eq0 t c).In_ok-head in
    let both = refuses a.from a.depth a.parent _ _ _ _ λ w n i.
    refused_inside t h w i _ (so_far.deep a.limits a.left (c.loop.invariant.1 (place t h w i) (λ j. n j + 1) (so_many t h w i)).so_far (omega arith) c.if-left-eq0.true) in
    record { value = both.0; wrote = both.1 }

pub returns-then-limits-nested : goal.returns-then-limits-nested
returns-then-limits-nested t c =
    let a = c.args in
    let h = (goal.at.returns-then-limits-nested t c).In_ok-head in
    let both = refuses a.from a.depth a.parent _ _ _ _ λ w n i.
    refused_inside t h w i _ (so_far.many a.limits a.left (c.loop.invariant.1 (place t h w i) (λ j. n j + 1) (so_many t h w i)).so_far (omega arith) (level a.left c.if-left-eq0.false) c.if-limits-nested.true) in
    record { value = both.0; wrote = both.1 }

pub write_function-requires : goal.write_function-requires
write_function-requires t c =
    let limit = c.requires.0.0 in
    let within = c.if-limits-nested.false in
    let deepest = c.requires.2 in
    let more = level c.args.left c.if-left-eq0.false in
    (omega (arith, c.decreases, more), (c.requires.0, omega (arith, within, limit), omega (arith, deepest, more)))

pub returns-in_err-nested : goal.returns-in_err-nested
returns-in_err-nested t c =
    let a = c.args in
    let h = (goal.at.returns-in_err-nested t c).In_ok-head in
    let both = refuses a.from a.depth a.parent _ _ _ _ λ w n i.
    refused_inside t h w i _ (so_far.stops a.limits a.left (c.loop.invariant.1 (place t h w i) (λ j. n j + 1) (so_many t h w i)).so_far (omega arith) (level a.left c.if-left-eq0.false) c.if-limits-nested.false
    _ (sym c.in_err-nested.was ∙ c.write_function.ensures.value (on (place t h w i) c.loop.nested) refl refl)) in
    let p = err_from_is_err_and c.from_residual-in_err-nested.result c.from_residual-in_err-nested.ensures.1 in
    rw (p.1, p.2) (record { value = both.0; wrote = both.1 })

pub loop-preserved : goal.loop-preserved
loop-preserved t c =
    let a = c.args in
    let h = (goal.at.loop-preserved t c).In_ok-head in
    let long : length c.write_function.new.rows ≡ length c.loop.rows = search rules in (
      long ∙ c.loop.invariant.0,
      as_many {more = c.in_ok-head.head.protos - c.loop.counter - 1} (omega arith) (on-behind a.s.now a.limits c.in_ok-head.head.protos a.left (a.depth + 1) a.from.number (stand t h) c.put_head.new.rows c.loop.nested (c.in_ok-head.head.protos - c.loop.counter) c.loop.rows c.loop.invariant.1
          c.loop.invariant.0 (omega arith) (level a.left c.if-left-eq0.false) c.if-limits-nested.false _ c.in_ok-nested.nested (λ w n i. sym c.in_ok-nested.was ∙ c.write_function.ensures.value w n i) c.write_function.ensures.wrote),
    )

pub returns-in_err-head : goal.returns-in_err-head
returns-in_err-head t c =
    let a = c.args in
    let both = refuses a.from a.depth a.parent _ _ _ _ λ w n i. passes.head-refused a.s.now a.limits a.left w a.from.next.at i _ (sym c.in_err-head.was ∙ c.pass_head.ensures.value) in
    let p = err_from_is_err_and c.from_residual.result c.from_residual.ensures.1 in
    rw (p.1, p.2) (record { value = both.0; wrote = both.1 })

pub returns-in_err-tail : goal.returns-in_err-tail
returns-in_err-tail t c =
    let a = c.args in
    let h = (goal.at.returns-in_err-tail t c).In_ok-head in
    let both = refuses a.from a.depth a.parent _ _ _ _ λ w n i.
    passes.tail-refused a.s.now a.limits a.left w a.from.next.at i c.in_ok-head.head c.in_ok-head.behind (begun t h) c.loop.nested (so_far.ends (c.loop.invariant.1 (place t h w i) (λ j. n j + 1) (so_many t h w i)).so_far (omega arith))
    _ (sym c.in_err-tail.was ∙ c.pass_tail.ensures.value) in
    let p = err_from_is_err_and c.from_residual-in_err-tail.result c.from_residual-in_err-tail.ensures.1 in
    rw (p.1, p.2) (record { value = both.0; wrote = both.1 })

pub returns : goal.returns
returns t c =
    let a = c.args in
    let h = (goal.at.returns t c).In_ok-head in
    let long : length c.put_head.new.rows ≡ length a.rows.now = search rules in
    let ended = sym c.in_ok-tail.was ∙ c.pass_tail.ensures.value in
    record {
      value = λ w n i. passes.function-shown a.s.now a.limits a.left w a.from.next.at i c.in_ok-head.head c.in_ok-head.behind (begun t h) c.loop.nested (so_far.ends (c.loop.invariant.1 (place t h w i) (λ j. n j + 1) (so_many t h w i)).so_far (omega arith)) c.in_ok-tail.tail c.in_ok-tail.next ended;
      wrote = λ w n i d p. function-wrote a.s.now a.limits a.left w a.from.next.at i c.in_ok-head.head c.in_ok-head.behind (begun t h) c.loop.nested (so_far.ends (c.loop.invariant.1 (place t h w i) (λ j. n j + 1) (so_many t h w i)).so_far (omega arith)) c.in_ok-tail.tail c.in_ok-tail.next ended
          a.from.number a.depth a.parent n d p a.rows.now c.put_head.new.rows c.loop.rows _ c.put_head.ensures long
          (ends_behind a.s.now a.limits c.in_ok-head.head.protos a.left (a.depth + 1) a.from.number (stand t h) c.put_head.new.rows c.loop.nested (c.in_ok-head.head.protos - c.loop.counter) c.loop.rows c.loop.invariant.1 (omega arith) (place t h w i) (λ j. n j + 1) (so_many t h w i) (λ j. d j + 1) n)
          c.loop.invariant.0 c.put_tail.ensures;
    }
