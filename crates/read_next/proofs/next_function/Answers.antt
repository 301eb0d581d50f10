-- `read_next::next_function` meets its contract: where a level has a function left, the law of one more function, and what its head is.
-- Assumes nothing.
use mathlib.Core.Path.{sym, ◌∙◌}
use native.Mathlib.Omega.{arith}
use Rattle.format_spelling.proofs.Tallies.{room_unused}
use Rattle.read_walk.proofs.HeadTail.{in_total}
use Rattle.read_next.specs.Inner.Rows.{head_at}
use Rattle.read_next.proofs.RowLaws.{one_more}
use Rattle.read_next.proofs.next_function.Goals as goal

pub read_head-requires : goal.read_head-requires
unfolding head_at
read_head-requires c = room_unused _

pub returns-in_default : goal.returns-in_default
unfolding head_at
returns-in_default c = let ready = rw c.in_ok-d.was at c.go_up.ensures.1 in (
  rw (
    c.go_up.ensures.0,
    c.in_ok-d.was,
    one_more c.args.limits c.args.s.now c.args.left.now c.in_ok-d.d c.in_ok-d.place.at ready.1 ready.0 (omega arith),
    ← c.read_head.ensures.value,
    c.in_default.is,
  ),
  tt,
)

pub returns : goal.returns
unfolding head_at
returns c =
    let ready = rw c.in_ok-d.was at c.go_up.ensures.1 in
    let few = in_total c.args.s.now c.args.limits 0 c.in_ok-d.place.at c.in-Ok.head c.in-Ok.next (sym c.in-Ok.is ∙ c.read_head.ensures.value) in (
      rw (
        c.go_up.ensures.0,
        c.in_ok-d.was,
        one_more c.args.limits c.args.s.now c.args.left.now c.in_ok-d.d c.in_ok-d.place.at ready.1 ready.0 (omega arith),
        ← c.read_head.ensures.value,
        c.in-Ok.is,
        c.row_of-row.ensures,
      ),
      (ready.0, ready.1, rw c.row_of-row.ensures (omega (arith, few, c.requires))),
    )
