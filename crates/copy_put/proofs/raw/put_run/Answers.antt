-- `copy_put::raw::put_run` meets its contract. Assumes nothing.
use mathlib.Core.Path.{◌∙◌}
use native.Mathlib.Omega.{arith}
use lib.ListN.{length-drop}
use Rattle.copy_put.proofs.Writes.{put_then, too_few, in_there}
use Rattle.copy_put.proofs.raw.put_run.Goals as goal

pub returns-then-remaining-width : goal.returns-then-remaining-width
returns-then-remaining-width c = let a = c.args in λ h. absurd (too_few a.count a.width _ _ c.requires (c.remaining.ensures ∙ length-drop a.place a.s.now) c.if-remaining-width.true h)

pub overflow_mul-count : goal.overflow_mul-count
overflow_mul-count c = let a = c.args in omega (arith, in_there a.count a.width _ _ c.requires (c.remaining.ensures ∙ length-drop a.place a.s.now) c.if-remaining-width.false, c.well_formed)

pub returns : goal.returns
returns c = λ h. put_then c.put_varint-behind.ensures (c.put_bytes.ensures h)
