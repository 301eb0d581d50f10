-- `read_next::go_up` meets its contract. The invariant: what is still to come at the start is what is still to come here. The measure is the level.
-- Assumes nothing.
use mathlib.Core.Path.{refl}
use Rattle.format_spelling.proofs.Tallies.{room_unused}
use Rattle.read_next.specs.Inner.Rows.{tail_at}
use Rattle.read_next.proofs.RowLaws.{none_at_top, none_here, too_deep_lem}
use Rattle.read_next.proofs.go_up.Goals as goal

pub loop-limits-init : goal.loop-limits-init
unfolding tail_at
loop-limits-init c = refl

pub returns-then-d-ge-LEVELS : goal.returns-then-d-ge-LEVELS
unfolding tail_at
returns-then-d-ge-LEVELS c = (rw (c.loop-limits.invariant, too_deep_lem _ _ _ _ _ (rw c.left_at.ensures at c.if-left_at-gt0.true) c.if-d-ge-LEVELS.true), tt)

pub returns-then-left_at-gt0 : goal.returns-then-left_at-gt0
unfolding tail_at
returns-then-left_at-gt0 c = (c.loop-limits.invariant, (c.if-d-ge-LEVELS.false, rw c.left_at.ensures at c.if-left_at-gt0.true))

pub returns-then-d-eq0 : goal.returns-then-d-eq0
unfolding tail_at
returns-then-d-eq0 c = (rw (c.loop-limits.invariant, none_at_top _ _ _ _ _ (rw c.left_at.ensures at c.if-left_at-gt0.false) c.if-d-eq0.true), tt)

pub read_tail-requires : goal.read_tail-requires
unfolding tail_at
read_tail-requires c = room_unused _

pub returns-in_default : goal.returns-in_default
unfolding tail_at
returns-in_default c = (
  rw (
    c.loop-limits.invariant,
    none_here _ _ _ _ _ (rw c.left_at.ensures at c.if-left_at-gt0.false) c.if-d-eq0.false,
    ← c.read_tail.ensures.value,
    c.in_default.is,
  ),
  tt,
)

pub loop-limits-preserved : goal.loop-limits-preserved
unfolding tail_at
loop-limits-preserved c =
    rw (
      c.loop-limits.invariant,
      none_here _ _ _ _ _ (rw c.left_at.ensures at c.if-left_at-gt0.false) c.if-d-eq0.false,
      ← c.read_tail.ensures.value,
      c.in-Ok.is,
    )
