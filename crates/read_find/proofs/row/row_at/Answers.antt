-- `read_find::row::row_at` meets its contract: by what is read at the spot (Spots.antt). Assumes nothing.
use Rattle.std.specs.Prelude.{Some}
use mathlib.Core.Path.{sym, ◌∙◌, ap}
use Rattle.format_spelling.proofs.Tallies.{room_unused}
use Rattle.read_find.proofs.Spots.{no_head, no_tail, row_there}
use Rattle.read_find.proofs.row.row_at.Goals as goal

pub read_head-begins-requires : goal.read_head-begins-requires
read_head-begins-requires c = room_unused _

pub read_tail-ends-requires : goal.read_tail-ends-requires
read_tail-ends-requires c = room_unused _

pub returns-in_default : goal.returns-in_default
returns-in_default c =
    let a = c.args in
    no_head a.limits a.s.now a.spot.now _ (sym c.in_default.is ∙ c.read_head-begins.ensures.value)

pub returns-in_default-ends : goal.returns-in_default-ends
returns-in_default-ends c =
    let a = c.args in
    no_tail a.limits a.s.now a.spot.now c.in-Ok.head _ (sym c.in-Ok.is ∙ c.read_head-begins.ensures.value) _ (sym c.in_default-ends.is ∙ c.read_tail-ends.ensures.value)

pub returns : goal.returns
returns c =
    let a = c.args in
    ap Some c.row_of.ensures
    ∙ row_there a.limits a.s.now a.spot.now c.in-Ok.head _ (sym c.in-Ok.is ∙ c.read_head-begins.ensures.value)
    c.in-Ok-ends.tail c.in-Ok-ends.next (sym c.in-Ok-ends.is ∙ c.read_tail-ends.ensures.value) _ c.source_at-source.ensures
