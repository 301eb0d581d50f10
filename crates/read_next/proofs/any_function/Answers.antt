-- `read_next::any_function` meets its contract: where a level has a function left there is one more, if its head is read. Assumes nothing.
use native.Mathlib.Omega.{arith}
use Rattle.format_spelling.proofs.Tallies.{room_unused}
use Rattle.read_next.specs.Inner.Rows.{head_at}
use Rattle.read_next.proofs.RowLaws.{one_more, any_read}
use Rattle.read_next.proofs.any_function.Goals as goal

pub read_head-requires : goal.read_head-requires
read_head-requires c = room_unused _

pub returns : goal.returns
unfolding head_at
returns c =
    let ready = rw c.in-Some.is at c.go_up.ensures.1 in
    rw (
      c.go_up.ensures.0,
      c.in-Some.is,
      one_more c.args.limits c.args.s.now c.args.left.now _ c.in-Some.place.at ready.1 ready.0 (omega arith),
      ← c.read_head.ensures.value,
      c.is_ok.ensures.value,
    )
    (any_read _ c.read_head.result _)
