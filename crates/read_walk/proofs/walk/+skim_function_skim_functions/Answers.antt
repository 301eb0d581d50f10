-- The cycle of calls {skim_function, skim_functions} meets its contracts. What stands behind a head is in Headed.antt, those passed over so far in Passed.antt;
-- what each return shows is in Passes.antt and SoFar.antt, what is counted in Tally.antt.
-- Assumes nothing.
use Rattle.std.proofs.lemmas.Result.{err_from_is_err_and}
use Rattle.std.specs.Prelude.{Ok}
use Prim.Native.Nat.{ℕ, ◌-◌}
use mathlib.Core.Path.{◌≡◌, refl, sym, subst, ◌∙◌, ap}
use native.Mathlib.Omega.{arith}
use Rattle.format.specs.GrammarChunk.{Where}
use Rattle.format_spelling.specs.Inner.Tally.{Adds}
use Rattle.read_walk.specs.Inner.Skim.{on}
use Rattle.read_walk.specs.Inner.Source.{source_at}
use Rattle.read_walk.proofs.Headed as head
use Rattle.read_walk.proofs.Headed.{Headed, Nested, first, inside, those}
use Rattle.read_walk.proofs.Passed.{starts, as_many, ends}
use Rattle.read_walk.proofs.Passes as passes
use Rattle.read_walk.proofs.SoFar as so_far
use Rattle.read_walk.proofs.SoFar.{level}
use Rattle.read_walk.proofs.Tally as tally
use Rattle.read_walk.proofs.Tally.{refuses}
use Rattle.read_walk.proofs.walk.+skim_function_skim_functions.Goals as goal
use Rattle.read_walk.proofs.walk.+skim_function_skim_functions.Goals.{skim_function-In_ok-counts, skim_function-Joined-counts-gt0, skim_function-then-counts-gt0+in_ok-nested, skim_function-else-counts-gt0}

-- ## A function
-- behind the head: what it gave
headed : (t : ℕ) (c : skim_function-In_ok-counts t) → Headed c.args.s.now c.args.limits c.args.from c.args.tally.now c.pass_head.new.tally c.in_ok-counts.counts c.in_ok-counts.behind
headed t c = record { begun = sym c.in_ok-counts.was ∙ c.pass_head.ensures.value; room = c.requires.2; told = c.pass_head.ensures.adds }

pub skim_function-own_source-own-requires : goal.skim_function-own_source-own-requires
skim_function-own_source-own-requires t c = head.own_fits (headed t (goal.at.skim_function-own_source-own-requires t c).In_ok-counts) c.args.left c.args.source (omega arith)

pub skim_function-overflow_add-nested-2 : goal.skim_function-overflow_add-nested-2
skim_function-overflow_add-nested-2 t c =
    let few = head.total (headed t (goal.at.skim_function-overflow_add-nested-2 t c).In_ok-counts) c.args.left c.args.source in
    let limit = c.requires.0.1 in
    omega (arith, few, limit)

pub skim_function-skim_functions-requires : goal.skim_function-skim_functions-requires
skim_function-skim_functions-requires t c = (
  omega (arith, c.decreases),
  (c.requires.0, head.first_room (headed t (goal.at.skim_function-skim_functions-requires t c).In_ok-counts) c.args.left c.args.source _ c.own_source-own.ensures.tally_after),
)

pub skim_function-returns-in_err-nested : goal.skim_function-returns-in_err-nested
skim_function-returns-in_err-nested t c =
    let a = c.args in
    let h = headed t (goal.at.skim_function-returns-in_err-nested t c).In_ok-counts in
    let own = c.own_source-own.ensures.tally_after in
    let both = refuses λ w n i.
    passes.nested_refused a.s.now a.limits a.left w a.from.next.at i _ _ h.begun _
    (sym c.in_err-nested.was ∙ c.skim_functions.ensures.value (first h a.left a.source c.own_source-own.new.tally own w n i) (head.number h a.left a.source c.own_source-own.new.tally own w n i) (head.instructions h a.left a.source c.own_source-own.new.tally own w n i)) in
    let p = err_from_is_err_and c.from_residual-in_err-nested.result c.from_residual-in_err-nested.ensures.1 in
    rw (p.1, p.2) (record { value = both.0; adds = both.1 })

pub skim_function-returns-in_err-counts : goal.skim_function-returns-in_err-counts
skim_function-returns-in_err-counts t c =
    let a = c.args in
    let both = refuses λ w n i. passes.head-refused a.s.now a.limits a.left w a.from.next.at i _ (sym c.in_err-counts.was ∙ c.pass_head.ensures.value) in
    let p = err_from_is_err_and c.from_residual.result c.from_residual.ensures.1 in
    rw (p.1, p.2) (record { value = both.0; adds = both.1 })

-- whether there are some or none in it: what was shown of them, and counted

headed-joined : (t : ℕ) (c : skim_function-Joined-counts-gt0 t) → Headed c.args.s.now c.args.limits c.args.from c.args.tally.now c.pass_head.new.tally c.in_ok-counts.counts c.in_ok-counts.behind
headed-joined t c = record { begun = sym c.in_ok-counts.was ∙ c.pass_head.ensures.value; room = c.requires.2; told = c.pass_head.ensures.adds }

walked : (t : ℕ) (c : skim_function-Joined-counts-gt0 t) (w : Where) (n : c.args.from.number ≡ w.number) (i : c.args.from.instructions ≡ w.instructions)
    → Nested (headed-joined t c) c.args.left c.args.source c.own_source-own.new.tally c.own_source-own.ensures.tally_after c.if-counts-gt0.nested c.if-counts-gt0.tally w n i
walked t c w n i =
    let a = c.args in
    let h = headed-joined t c in
    let own = c.own_source-own.ensures.tally_after in
    let first_of = first h a.left a.source c.own_source-own.new.tally own w n i in
    let those_in = inside h a.left a.source c.own_source-own.new.tally own w n i in
    let counted_in = those h a.left a.source c.own_source-own.new.tally own w n i in
    let number = head.number h a.left a.source c.own_source-own.new.tally own w n i in
    let instructions = head.instructions h a.left a.source c.own_source-own.new.tally own w n i in
    let inherited = head.inherited h a.left a.source c.own_source-own.new.tally own w n i c.own_source-own.ensures.value in
    elim c.if-counts-gt0.branch [
      | skim_function-then-counts-gt0+in_ok-nested some ↦ record {
        shown = ap Ok some.nested-is ∙ sym some.in_ok-nested.was ∙ some.skim_functions.ensures.value first_of number instructions;
        counted = λ from. subst (Adds those_in counted_in c.own_source-own.new.tally) (sym some.tally-is) (some.skim_functions.ensures.adds first_of number instructions (inherited from));
      }
      | skim_function-else-counts-gt0 none ↦
          let e = ends (starts a.s.now a.limits a.left c.in_ok-counts.counts.protos c.own_source-own.result (head.stand h a.left a.source) c.own_source-own.new.tally) none.if-counts-gt0.false in
          record {
            shown = ap Ok none.nested-is ∙ e.0 first_of number instructions;
            counted = λ from. subst (Adds those_in counted_in c.own_source-own.new.tally) (sym none.tally-is) (e.1 first_of number instructions (inherited from));
          }
    ]

pub skim_function-pass_tail-requires : goal.skim_function-pass_tail-requires
skim_function-pass_tail-requires t c =
    let j = (goal.at.skim_function-pass_tail-requires t c).Joined-counts-gt0 in
    let a = c.args in
    let h = headed-joined t j in
    let w = head.anywhere h a.left a.source in
    let own = c.own_source-own.ensures.tally_after in
    let k = walked t j w refl refl in
    tally.nested_room a.s.now a.limits a.left w a.from.next.at refl c.in_ok-counts.counts c.in_ok-counts.behind h.begun h.room h.told a.source refl (head.owned h a.left a.source c.own_source-own.new.tally own w refl refl) c.if-counts-gt0.nested k.shown (k.counted refl)

pub skim_function-returns-in_err-next : goal.skim_function-returns-in_err-next
skim_function-returns-in_err-next t c =
    let j = (goal.at.skim_function-returns-in_err-next t c).Joined-counts-gt0 in
    let a = c.args in
    let h = headed-joined t j in
    let both = refuses λ w n i.
    passes.tail-refused a.s.now a.limits a.left w a.from.next.at i _ _ h.begun c.if-counts-gt0.nested (walked t j w n i).shown _ (sym c.in_err-next.was ∙ c.pass_tail.ensures.value) in
    let p = err_from_is_err_and c.from_residual-in_err-next.result c.from_residual-in_err-next.ensures.1 in
    rw (p.1, p.2) (record { value = both.0; adds = both.1 })

pub skim_function-returns : goal.skim_function-returns
skim_function-returns t c =
    let j = (goal.at.skim_function-returns t c).Joined-counts-gt0 in
    let a = c.args in
    let h = headed-joined t j in
    let own = c.own_source-own.ensures.tally_after in
    let ended = sym c.in_ok-next.was ∙ c.pass_tail.ensures.value in
    record {
      value = λ w n i. passes.function-shown a.s.now a.limits a.left w a.from.next.at i _ _ h.begun c.if-counts-gt0.nested (walked t j w n i).shown _ c.in_ok-next.next ended;
      adds = λ w n i from.
          let k = walked t j w n i in
          tally.function-counted a.s.now a.limits a.left w a.from.next.at i c.in_ok-counts.counts c.in_ok-counts.behind h.begun h.room h.told a.source from (head.owned h a.left a.source c.own_source-own.new.tally own w n i) c.if-counts-gt0.nested k.shown (k.counted from)
          _ c.in_ok-next.next ended c.pass_tail.ensures.adds;
    }

-- ## Functions one after the other
pub skim_functions-loop-init : goal.skim_functions-loop-init
skim_functions-loop-init t c =
    let a = c.args in
    (c.requires.1, λ w n i. as_many (omega arith) (starts a.s.now a.limits a.left a.n a.source a.from a.tally.now w n i))

pub skim_functions-returns-then-left-eq0 : goal.skim_functions-returns-then-left-eq0
skim_functions-returns-then-left-eq0 t c =
    let both = refuses λ w n i. so_far.deep _ _ (c.loop.invariant.1 w n i).so_far (omega arith) c.if-left-eq0.true in
    record { value = both.0; adds = both.1 }

pub skim_functions-returns-then-limits-skimmed : goal.skim_functions-returns-then-limits-skimmed
skim_functions-returns-then-limits-skimmed t c =
    let both = refuses λ w n i. so_far.many _ _ (c.loop.invariant.1 w n i).so_far (omega arith) (level c.args.left c.if-left-eq0.false) c.if-limits-skimmed.true in
    record { value = both.0; adds = both.1 }

pub skim_functions-skim_function-requires : goal.skim_functions-skim_function-requires
skim_functions-skim_function-requires t c =
    let limit = c.requires.0 in
    let within = c.if-limits-skimmed.false in
    let more = level c.args.left c.if-left-eq0.false in
    (omega (arith, c.decreases, more), (limit, omega (arith, within, limit.0), c.loop.invariant.0))

pub skim_functions-returns-in_err-skimmed : goal.skim_functions-returns-in_err-skimmed
skim_functions-returns-in_err-skimmed t c =
    let both = refuses λ w n i.
    so_far.stops _ _ (c.loop.invariant.1 w n i).so_far (omega arith) (level c.args.left c.if-left-eq0.false) c.if-limits-skimmed.false _
    (sym c.in_err-skimmed.was ∙ c.skim_function.ensures.value (on w c.loop.skimmed) refl refl) in
    let p = err_from_is_err_and c.from_residual.result c.from_residual.ensures.1 in
    rw (p.1, p.2) (record { value = both.0; adds = both.1 })

pub skim_functions-loop-preserved : goal.skim_functions-loop-preserved
skim_functions-loop-preserved t c =
    let a = c.args in
    let k = c.loop.skimmed in
    let later = c.in_ok-skimmed.skimmed in
    let told = sym c.in_ok-skimmed.was in
    let up = level a.left c.if-left-eq0.false in
    let ens = c.skim_function.ensures in
    let anywhere : Where = record { number = 0; instructions = 0; depth = 0; parent = 0; source = source_at a.limits.max_string_bytes a.s.now a.source } in (
      tally.later_room a.limits a.left a.s.now k c.loop.tally later c.skim_function.new.tally anywhere (told ∙ ens.value (on anywhere k) refl refl) (ens.adds (on anywhere k) refl refl refl) c.loop.invariant.0,
      λ w n i.
          let p = c.loop.invariant.1 w n i in
          let shown = told ∙ ens.value (on w k) refl refl in
          as_many {more = a.n - c.loop.counter - 1} (omega arith) (record {
            passed = _;
            so_far = so_far.goes_on_lem _ _ p.so_far (omega arith) up c.if-limits-skimmed.false _ shown;
            total = λ o. tally.total_on a.limits a.left a.s.now k c.loop.tally later c.skim_function.new.tally w shown (ens.adds (on w k) refl refl o) (p.total o) (omega arith) up c.if-limits-skimmed.false;
          }),
    )

pub skim_functions-returns : goal.skim_functions-returns
skim_functions-returns t c =
    let both = ends c.loop.invariant.1 (omega arith) in
    record { value = both.0; adds = both.1 }
