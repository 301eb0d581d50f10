-- `chunklist_listing::function_lines` meets its contract. Assumes nothing.
use Rattle.std.proofs.Common.{◌+◌, ◌∙◌, rules, arith, refl, take}
use lib.ListN.{set, replicate, length-set}
use Rattle.read_next.specs.Inner.Rows.{LEVELS, rows_from, entered}
use Rattle.read_next.proofs.RowLaws.{at_start}
use Rattle.text_print.specs.Output.{waiting}
use Rattle.text_print.proofs.GivenLaws.{begins, put_next, stops, printed_err}
use Rattle.chunklist_lines.specs.Inner.Rows.{row_line}
use Rattle.chunklist_listing.specs.Inner.Rows.{row_lines}
use Rattle.chunklist_lines.proofs.Laws.{puts-append, nothing}
use Rattle.chunklist_listing.proofs.function_lines.Goals as goal

pub loop-row-init : goal.loop-row-init
loop-row-init g c =
    let a = c.args in
    let whole = at_start a.limits a.s.now (set (replicate (LEVELS + 1) 0) 0 1) a.start.at refl in (
      search rules,
      rw whole (omega (arith, c.requires.max_total_instructions_bound.1)),
      c.requires.fits,
      rw whole,
      rw whole (begins (g.W.Write.contents a.to.now) _),
    )

pub returns-clause-result_after : goal.returns-clause-result_after
returns-clause-result_after g c = nothing _ ∙ rw
    (c.next_function.ensures.0, c.in_default.is) at c.loop-row.invariant.3

pub returns-in_err-used-clause-given : goal.returns-in_err-used-clause-given
returns-in_err-used-clause-given g c =
    let l = c.loop-row in
    printed_err _ _ _ _ c.from_residual.result c.from_residual.ensures.0
    (stops _ (g.W.Write.contents l.to) _ _ (take l.used l.out) (row_line l.number c.in-Some.row) _
    (rw c.in-Some.ensures.0 at l.invariant.4) c.in_err-used.ensures.given)

pub loop-row-preserved : goal.loop-row-preserved
loop-row-preserved g c =
    let l = c.loop-row in
    let row = c.in-Some.row in
    let rest = row_lines (l.number + 1)
    (rows_from c.args.limits c.args.s.now (entered l.left c.in-Some.d row.protos)
    (c.in-Some.d + 1) c.in-Some.first.at) in
    let met = c.in-Some.ensures.0 in (
      rw (c.go_down.ensures, length-set, length-set) l.invariant.0,
      rw c.go_down.ensures (omega (arith, rw met at l.invariant.1)),
      c.in_ok-used.ensures.fits,
      rw (
        c.go_down.ensures,
        c.in_ok-used.ensures.result_after,
        ← puts-append (row_line l.number row) rest
            (waiting l.out l.used),
      ) (rw met at l.invariant.3),
      rw c.go_down.ensures
          (put_next _ (g.W.Write.contents l.to) _ _ (take l.used l.out) (row_line l.number row) rest
          (rw met at l.invariant.4) _ c.in_ok-used.ensures.given),
    )
