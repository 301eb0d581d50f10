-- The cycle of calls {find_function, find_functions} meets its contracts: what each return shows is in read_walk's laws, what it has found in Finds.antt.
-- Assumes nothing.
use Rattle.std.proofs.lemmas.Result.{err_from_is_err_and}
use Prim.Native.Nat.{ℕ, ◌≤◌, ◌+◌, ◌-◌}
use mathlib.Core.Path.{refl, sym, ◌∙◌}
use native.Mathlib.Omega.{arith}
use Rattle.format.specs.Limits.{DEEPEST}
use Rattle.format_spelling.proofs.Tallies.{room_unused}
use Rattle.read_walk.proofs.HeadTail.{counts_total}
use Rattle.read_walk.proofs.Passes as passes
use Rattle.read_walk.proofs.SoFar.{ends, deep, many, stops, level}
use Rattle.read_find.specs.Inner.Spot.{below_shown, standing}
use Rattle.read_find.proofs.Finds.{unfound, nested_refused, tail-refused, function-shown, function-found, Walked, walked_some, walked_none, starts-behind, as_many, ends_behind, on-behind}
use Rattle.read_find.proofs.spot.+find_function_find_functions.Goals as goal
use Rattle.read_find.proofs.spot.+find_function_find_functions.Goals.{find_function-Joined-counts-gt0, find_function-then-counts-gt0+in_ok-nested, find_function-else-counts-gt0}

-- ## A function
pub find_function-pass_head-requires : goal.find_function-pass_head-requires
find_function-pass_head-requires t c = room_unused _

pub find_function-overflow_add-nested-2 : goal.find_function-overflow_add-nested-2
find_function-overflow_add-nested-2 t c =
    let a = c.args in
    let e = counts_total a.s.now a.limits a.from.instructions a.from.next.at c.in_ok-counts.counts c.in_ok-counts.behind (sym c.in_ok-counts.was ∙ c.pass_head.ensures.value) in
    let limit = c.requires.0.1 in
    omega (arith, e, limit)

pub find_function-find_functions-requires : goal.find_function-find_functions-requires
find_function-find_functions-requires t c =
    let deepest = c.requires.2 in
    let depth : c.below-nest.result.depth + c.args.left ≤ DEEPEST + 1 = rw c.below-nest.ensures (omega (arith, deepest)) in
    (omega (arith, c.decreases), (c.requires.0, depth))

pub find_function-returns-in_err-nested : goal.find_function-returns-in_err-nested
find_function-returns-in_err-nested t c =
    let a = c.args in
    let begun = sym c.in_ok-counts.was ∙ c.pass_head.ensures.value in
    let shown = nested_refused a.s.now a.limits a.left a.above a.from c.in_ok-counts.counts c.in_ok-counts.behind begun c.below-nest.result c.below-nest.ensures
    _ (sym c.in_err-nested.was ∙ c.find_functions.ensures.value) in
    let p = err_from_is_err_and c.from_residual-in_err-nested.result c.from_residual-in_err-nested.ensures.1 in
    rw (p.1, p.2) (record { value = shown; found = unfound (standing a.limits a.s.now a.above a.from) shown })

pub find_function-returns-in_err-counts : goal.find_function-returns-in_err-counts
find_function-returns-in_err-counts t c =
    let a = c.args in
    let place = standing a.limits a.s.now a.above a.from in
    let shown = passes.head-refused a.s.now a.limits a.left place a.from.next.at refl _ (sym c.in_err-counts.was ∙ c.pass_head.ensures.value) in
    let p = err_from_is_err_and c.from_residual.result c.from_residual.ensures.1 in
    rw (p.1, p.2) (record { value = shown; found = unfound place shown })

-- whether there are some or none in it: what was shown of them, and found

walked : (t : ℕ) (c : find_function-Joined-counts-gt0 t)
    → Walked c.args.s.now c.args.limits c.args.left (below_shown c.args.above c.args.from c.in_ok-counts.counts.named)
    (record { next = c.in_ok-counts.behind; number = c.args.from.number + 1; instructions = c.args.from.instructions + c.in_ok-counts.counts.instructions })
    c.in_ok-counts.counts.protos c.args.wanted c.args.spot.now c.if-counts-gt0.nested c.if-counts-gt0.spot
walked t c =
    elim c.if-counts-gt0.branch [
      | find_function-then-counts-gt0+in_ok-nested some ↦
          let inner = some.find_functions.ensures in
          walked_some some.below-nest.ensures inner.value inner.found some.in_ok-nested.was some.nested-is some.spot-is
      | find_function-else-counts-gt0 none ↦ walked_none _ _ _ _ _ _ _ _ none.if-counts-gt0.false none.nested-is none.spot-is
    ]

pub find_function-pass_tail-requires : goal.find_function-pass_tail-requires
find_function-pass_tail-requires t c = room_unused _

pub find_function-returns-in_err-next : goal.find_function-returns-in_err-next
find_function-returns-in_err-next t c =
    let a = c.args in
    let k = walked t (goal.at.find_function-returns-in_err-next t c).Joined-counts-gt0 in
    let begun = sym c.in_ok-counts.was ∙ c.pass_head.ensures.value in
    let shown = tail-refused a.s.now a.limits a.left a.above a.from c.in_ok-counts.counts c.in_ok-counts.behind begun (below_shown a.above a.from c.in_ok-counts.counts.named) refl
    c.if-counts-gt0.nested k.shown _ (sym c.in_err-next.was ∙ c.pass_tail.ensures.value) in
    let p = err_from_is_err_and c.from_residual-in_err-next.result c.from_residual-in_err-next.ensures.1 in
    rw (p.1, p.2) (record { value = shown; found = unfound (standing a.limits a.s.now a.above a.from) shown })

pub find_function-returns : goal.find_function-returns
find_function-returns t c =
    let a = c.args in
    let k = walked t (goal.at.find_function-returns t c).Joined-counts-gt0 in
    let begun = sym c.in_ok-counts.was ∙ c.pass_head.ensures.value in
    let ended = sym c.in_ok-next.was ∙ c.pass_tail.ensures.value in
    let nest = below_shown a.above a.from c.in_ok-counts.counts.named in
    record {
      value = function-shown a.s.now a.limits a.left a.above a.from c.in_ok-counts.counts c.in_ok-counts.behind begun nest refl c.if-counts-gt0.nested k.shown _ c.in_ok-next.next ended;
      found = function-found a.s.now a.limits a.left a.above a.from c.in_ok-counts.counts c.in_ok-counts.behind begun nest refl c.if-counts-gt0.nested k.shown _ c.in_ok-next.next ended
          a.wanted a.spot.now _ _ k.found c.put_spot.ensures;
    }

-- ## Functions one after the other
pub find_functions-loop-init : goal.find_functions-loop-init
find_functions-loop-init t c =
    let a = c.args in
    as_many (omega arith) (starts-behind a.s.now a.limits a.above a.wanted a.n a.left a.from _)

pub find_functions-returns-then-left-eq0 : goal.find_functions-returns-then-left-eq0
find_functions-returns-then-left-eq0 t c =
    let a = c.args in
    let shown = deep a.limits a.left c.loop.invariant.so_far (omega arith) c.if-left-eq0.true in
    record { value = shown; found = unfound (standing a.limits a.s.now a.above a.from) shown }

pub find_functions-returns-then-limits-skimmed : goal.find_functions-returns-then-limits-skimmed
find_functions-returns-then-limits-skimmed t c =
    let a = c.args in
    let shown = many a.limits a.left c.loop.invariant.so_far (omega arith) (level a.left c.if-left-eq0.false) c.if-limits-skimmed.true in
    record { value = shown; found = unfound (standing a.limits a.s.now a.above a.from) shown }

pub find_functions-find_function-requires : goal.find_functions-find_function-requires
find_functions-find_function-requires t c =
    let limit = c.requires.0 in
    let deepest = c.requires.1 in
    let within = c.if-limits-skimmed.false in
    let more = level c.args.left c.if-left-eq0.false in
    (omega (arith, c.decreases, more), (limit, omega (arith, within, limit.0), omega (arith, deepest, more)))

-- behind one function more: what it shows, and what it has found
pub find_functions-returns-in_err-skimmed : goal.find_functions-returns-in_err-skimmed
find_functions-returns-in_err-skimmed t c =
    let a = c.args in
    let shown = stops a.limits a.left c.loop.invariant.so_far (omega arith) (level a.left c.if-left-eq0.false) c.if-limits-skimmed.false
    _ (sym c.in_err-skimmed.was ∙ c.find_function.ensures.value) in
    let p = err_from_is_err_and c.from_residual.result c.from_residual.ensures.1 in
    rw (p.1, p.2) (record { value = shown; found = unfound (standing a.limits a.s.now a.above a.from) shown })

pub find_functions-loop-preserved : goal.find_functions-loop-preserved
find_functions-loop-preserved t c =
    as_many {more = c.args.n - c.loop.counter - 1} (omega arith)
    (on-behind c.loop.invariant (omega arith) (level c.args.left c.if-left-eq0.false) c.if-limits-skimmed.false _
    (sym c.in_ok-skimmed.was ∙ c.find_function.ensures.value) _ c.find_function.ensures.found)

pub find_functions-returns : goal.find_functions-returns
find_functions-returns t c = record {
  value = ends c.loop.invariant.so_far (omega arith);
  found = ends_behind c.loop.invariant (omega arith);
}
