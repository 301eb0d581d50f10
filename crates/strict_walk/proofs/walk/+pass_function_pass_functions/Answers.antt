-- The cycle of calls {pass_function, pass_functions} meets its contracts. What each return shows is in Passes.antt and read_walk's SoFar.antt.
-- Assumes nothing.
use Rattle.std.proofs.lemmas.Result.{err_from_is_err_and}
use Rattle.std.specs.Prelude.{Ok}
use Prim.Native.Nat.{ℕ, ◌+◌, ◌-◌}
use mathlib.Core.Path.{◌≡◌, refl, sym, ◌∙◌, ap}
use native.Mathlib.Omega.{arith}
use lib.ListN.{drop}
use Rattle.format.specs.GrammarChunk.{Where}
use Rattle.format_strict.proofs.ExactStrict.{exact_strict_function}
use Rattle.read_walk.specs.declared.walk.Skimmed.{Skimmed}
use Rattle.read_walk.specs.Inner.Skim.{on, skim_result}
use Rattle.read_walk.proofs.SoFar.{ends, deep_by, many_by, stops_by, goes_on_by, level}
use Rattle.strict_walk.specs.Inner.StrictParts.{strict_head}
use Rattle.strict_walk.specs.Inner.Results.{head_passed}
use Rattle.strict_walk.proofs.HeadAnswers.{head_ok}
use Rattle.strict_walk.proofs.Passes as passes
use Rattle.strict_walk.proofs.Passed.{begin, as_many}
use Rattle.strict_walk.proofs.walk.+pass_function_pass_functions.Goals as goal
use Rattle.strict_walk.proofs.walk.+pass_function_pass_functions.Goals.{
  pass_function-In_ok-instructions,
  pass_function-Joined-protos-gt0,
  pass_function-then-protos-gt0+in_ok-nested,
  pass_function-else-protos-gt0,
}

-- ## A function
-- behind the head: what it gave
begun : (t : ℕ) (c : pass_function-In_ok-instructions t) → Ok (c.in_ok-instructions.instructions, c.in_ok-instructions.protos, c.in_ok-instructions.behind) ≡ head_passed (strict_head c.args.limits c.args.from.instructions c.args.from.next.at (drop c.args.from.next.at c.args.s.now))
begun t c = sym c.in_ok-instructions.was ∙ c.pass_head.ensures

pub pass_function-overflow_add-nested-2 : goal.pass_function-overflow_add-nested-2
pass_function-overflow_add-nested-2 t c =
    let a = c.args in
    let e = (head_ok a.s.now a.limits a.from.instructions a.from.next.at c.in_ok-instructions.instructions c.in_ok-instructions.protos c.in_ok-instructions.behind (begun t (goal.at.pass_function-overflow_add-nested-2 t c).In_ok-instructions)).total in
    let limit = c.requires.0.1 in
    omega (arith, e, limit)

pub pass_function-pass_functions-requires : goal.pass_function-pass_functions-requires
pass_function-pass_functions-requires t c = (omega (arith, c.decreases), c.requires.0)

pub pass_function-returns-in_err-nested : goal.pass_function-returns-in_err-nested
pass_function-returns-in_err-nested t c =
    let p = err_from_is_err_and c.from_residual-in_err-nested.result c.from_residual-in_err-nested.ensures.1 in
    rw (p.1, p.2) (λ w n i.
    let a = c.args in
    let b = begun t (goal.at.pass_function-returns-in_err-nested t c).In_ok-instructions in
    passes.nested_refused a.s.now a.limits a.left w a.from.next.at i _ _ _ b _
    (sym c.in_err-nested.was
    ∙ c.pass_functions.ensures (passes.first a.s.now a.limits a.left w a.from.next.at i c.in_ok-instructions.instructions c.in_ok-instructions.protos c.in_ok-instructions.behind b) (λ j. n j + 1)
    (passes.first_instructions a.s.now a.limits a.left w a.from.next.at i c.in_ok-instructions.instructions c.in_ok-instructions.protos c.in_ok-instructions.behind b)))

pub pass_function-returns-in_err-instructions : goal.pass_function-returns-in_err-instructions
pass_function-returns-in_err-instructions t c =
    let p = err_from_is_err_and c.from_residual.result c.from_residual.ensures.1 in
    rw (p.1, p.2) (λ w n i.
    let a = c.args in
    passes.head-refused a.s.now a.limits a.left w a.from.next.at i _ (sym c.in_err-instructions.was ∙ c.pass_head.ensures))

-- whether there are some or none in it: what was shown of them
begun-joined : (t : ℕ) (c : pass_function-Joined-protos-gt0 t) → Ok (c.in_ok-instructions.instructions, c.in_ok-instructions.protos, c.in_ok-instructions.behind) ≡ head_passed (strict_head c.args.limits c.args.from.instructions c.args.from.next.at (drop c.args.from.next.at c.args.s.now))
begun-joined t c = sym c.in_ok-instructions.was ∙ c.pass_head.ensures

shown : (t : ℕ) (c : pass_function-Joined-protos-gt0 t) (w : Where) → c.args.from.number ≡ w.number → (i : c.args.from.instructions ≡ w.instructions)
    → Ok c.if-protos-gt0.nested
    ≡ skim_result (passes.first c.args.s.now c.args.limits c.args.left w c.args.from.next.at i c.in_ok-instructions.instructions c.in_ok-instructions.protos c.in_ok-instructions.behind (begun-joined t c))
    (passes.inner c.args.s.now c.args.limits c.args.left w c.args.from.next.at i c.in_ok-instructions.instructions c.in_ok-instructions.protos c.in_ok-instructions.behind (begun-joined t c))
shown t c w n i =
    let a = c.args in
    let b = begun-joined t c in
    let first = passes.first a.s.now a.limits a.left w a.from.next.at i c.in_ok-instructions.instructions c.in_ok-instructions.protos c.in_ok-instructions.behind b in
    let more = passes.first_instructions a.s.now a.limits a.left w a.from.next.at i c.in_ok-instructions.instructions c.in_ok-instructions.protos c.in_ok-instructions.behind b in
    let stand : Skimmed = record { next = c.in_ok-instructions.behind; number = a.from.number + 1; instructions = a.from.instructions + c.in_ok-instructions.instructions } in
    elim c.if-protos-gt0.branch [
      | pass_function-then-protos-gt0+in_ok-nested some ↦ ap Ok some.nested-is ∙ sym some.in_ok-nested.was ∙ some.pass_functions.ensures first (λ j. n j + 1) more
      | pass_function-else-protos-gt0 none ↦ ap Ok none.nested-is ∙ ends (begin a.s.now a.limits a.left c.in_ok-instructions.protos stand first (λ j. n j + 1) more).so_far none.if-protos-gt0.false
    ]

pub pass_function-returns-in_err-next : goal.pass_function-returns-in_err-next
pass_function-returns-in_err-next t c =
    let p = err_from_is_err_and c.from_residual-in_err-next.result c.from_residual-in_err-next.ensures.1 in
    rw (p.1, p.2) (λ w n i.
    let a = c.args in
    let j = (goal.at.pass_function-returns-in_err-next t c).Joined-protos-gt0 in
    passes.tail-refused a.s.now a.limits a.left w a.from.next.at i _ _ _ (begun-joined t j) c.if-protos-gt0.nested (shown t j w n i) _ (sym c.in_err-next.was ∙ c.pass_tail.ensures))

pub pass_function-returns : goal.pass_function-returns
pass_function-returns t c = λ w n i.
    let a = c.args in
    let j = (goal.at.pass_function-returns t c).Joined-protos-gt0 in
    passes.function-shown a.s.now a.limits a.left w a.from.next.at i _ _ _ (begun-joined t j) c.if-protos-gt0.nested (shown t j w n i) _ (sym c.in_ok-next.was ∙ c.pass_tail.ensures)

-- ## Functions one after the other

pub pass_functions-loop-init : goal.pass_functions-loop-init
pass_functions-loop-init t c = let a = c.args in λ w n i. as_many (omega arith) (begin a.s.now a.limits a.left a.n a.from w n i)

pub pass_functions-returns-then-left-eq0 : goal.pass_functions-returns-then-left-eq0
pass_functions-returns-then-left-eq0 t c = λ w n i.
    deep_by (exact_strict_function c.args.limits) c.args.limits c.args.left (c.loop.invariant w n i).so_far (omega arith) c.if-left-eq0.true

pub pass_functions-returns-then-limits-passed : goal.pass_functions-returns-then-limits-passed
pass_functions-returns-then-limits-passed t c = λ w n i.
    many_by (exact_strict_function c.args.limits) c.args.limits c.args.left (c.loop.invariant w n i).so_far (omega arith) (level c.args.left c.if-left-eq0.false) c.if-limits-passed.true

pub pass_functions-pass_function-requires : goal.pass_functions-pass_function-requires
pass_functions-pass_function-requires t c =
    let limit = c.requires.0 in
    let within = c.if-limits-passed.false in
    let more = level c.args.left c.if-left-eq0.false in
    (omega (arith, c.decreases, more), (c.requires, omega (arith, within, limit)))

pub pass_functions-returns-in_err-passed : goal.pass_functions-returns-in_err-passed
pass_functions-returns-in_err-passed t c =
    let p = err_from_is_err_and c.from_residual.result c.from_residual.ensures.1 in
    rw (p.1, p.2) (λ w n i.
    stops_by (exact_strict_function c.args.limits) c.args.limits c.args.left (c.loop.invariant w n i).so_far (omega arith) (level c.args.left c.if-left-eq0.false) c.if-limits-passed.false _
    (sym c.in_err-passed.was ∙ c.pass_function.ensures (on w c.loop.passed) refl refl))

pub pass_functions-loop-preserved : goal.pass_functions-loop-preserved
pass_functions-loop-preserved t c = λ w n i. as_many {more = c.args.n - c.loop.counter - 1} (omega arith) (record {
  passed = _;
  so_far = goes_on_by (exact_strict_function c.args.limits) c.args.limits c.args.left (c.loop.invariant w n i).so_far (omega arith) (level c.args.left c.if-left-eq0.false) c.if-limits-passed.false _
      (sym c.in_ok-passed.was ∙ c.pass_function.ensures (on w c.loop.passed) refl refl);
})

pub pass_functions-returns : goal.pass_functions-returns
pass_functions-returns t c = λ w n i. ends (c.loop.invariant w n i).so_far (omega arith)
