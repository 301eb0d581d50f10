-- `line_batch::anchors::next_anchor` meets its contract (`Ahead.antt`). Assumes nothing.
use mathlib.Core.Path.{sym, ◌∙◌}
use lib.ListN.{drop}
use Rattle.format.specs.ReadChunk.{anchor}
use Rattle.read_entry.proofs.DebugInfo.{anchor_err, anchor-ok}
use Rattle.line_batch.proofs.Ahead.{none_left, unreadable, one-there}
use Rattle.line_batch.proofs.anchors.next_anchor.Goals as goal

pub returns-then-from-eq0 : goal.returns-then-from-eq0
returns-then-from-eq0 c = let a = c.args in none_left a.s.now a.from c.if-from-eq0.true

pub returns-in-Err : goal.returns-in-Err
returns-in-Err c = let a = c.args in
    unreadable a.s.now a.from c.if-from-eq0.false _ (anchor_err (anchor a.from.next.at (drop a.from.next.at a.s.now)) _ (sym c.in-Err.is ∙ c.read_anchor-read.ensures))

pub returns-in-Ok : goal.returns-in-Ok
returns-in-Ok c = let a = c.args in
    one-there a.s.now a.from c.if-from-eq0.false _ _ (anchor-ok (anchor a.from.next.at (drop a.from.next.at a.s.now)) _ _ (sym c.in-Ok.is ∙ c.read_anchor-read.ensures))
