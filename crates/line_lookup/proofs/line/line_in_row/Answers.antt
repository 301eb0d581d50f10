-- `line_lookup::line::line_in_row` meets its contract: by what the pass over the anchors gave and by the tests (`Rows.antt`). Assumes nothing.
use mathlib.Core.Path.{sym, ◌∙◌, ap}
use Prim.Native.Nat.{◌+◌}
use lib.ListN.{take}
use Rattle.line_lookup.proofs.Rows.{too_large, start-low, numbered_line, deltas_line, few}
use Rattle.line_lookup.proofs.line.line_in_row.Goals as goal

pub returns-then-scan : goal.returns-then-scan
returns-then-scan c = let a = c.args in
    let cut = c.up_to-deltas.ensures ∙ ap (take (a.pc + 1)) c.bytes_at.ensures in
    let read = sym c.in_ok-scan.was ∙ c.scan_anchors.ensures in
    too_large a.row a.pc a.s.now cut read c.if-scan.true

pub line_from-requires : goal.line_from-requires
line_from-requires c = let a = c.args in
    let cut = c.up_to-deltas.ensures ∙ ap (take (a.pc + 1)) c.bytes_at.ensures in
    let read = sym c.in_ok-scan.was ∙ c.scan_anchors.ensures in
    (few a.row a.pc a.s.now cut c.requires, start-low a.row a.pc a.s.now cut read c.if-scan.false)

pub returns-in-At : goal.returns-in-At
returns-in-At c = let a = c.args in
    let cut = c.up_to-deltas.ensures ∙ ap (take (a.pc + 1)) c.bytes_at.ensures in
    let read = sym c.in_ok-scan.was ∙ c.scan_anchors.ensures in
    numbered_line a.row a.pc a.s.now cut read c.if-scan.false _ (sym c.in-At.is ∙ c.numbered-found.ensures)

pub returns-in-Ahead : goal.returns-in-Ahead
returns-in-Ahead c = let a = c.args in
    let cut = c.up_to-deltas.ensures ∙ ap (take (a.pc + 1)) c.bytes_at.ensures in
    let read = sym c.in_ok-scan.was ∙ c.scan_anchors.ensures in
    deltas_line a.row a.pc a.s.now cut read c.if-scan.false _ (sym c.in-Ahead.is ∙ c.numbered-found.ensures) c.line_from.ensures
