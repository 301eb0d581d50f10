-- `read_walk::source::same_string` meets its contract (`Sources.antt`). Assumes nothing.
use Rattle.read_walk.proofs.Sources.{differ, no_room, compared}
use Rattle.read_walk.proofs.source.same_string.Goals as goal

pub returns-then-first-second : goal.returns-then-first-second
returns-then-first-second c = let a = c.args in differ a.s.now a.first a.second c.if-first-second.true

pub returns-then-remaining-other : goal.returns-then-remaining-other
returns-then-remaining-other c =
    let a = c.args in
    no_room a.s.now a.first a.second c.if-first-second.false _ c.bytes_at-other.ensures c.remaining.ensures c.if-remaining-other.true

pub returns : goal.returns
returns c =
    let a = c.args in
    compared a.s.now a.first a.second c.if-first-second.false _ c.bytes_at-other.ensures c.same_bytes.ensures
