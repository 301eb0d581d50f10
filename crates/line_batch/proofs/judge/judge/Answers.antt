-- `line_batch::judge::judge` meets its contract: by the tests, in the order of the code (`Judging.antt`). Assumes nothing.
use mathlib.Core.Path.{◌≡◌, sym, ◌∙◌, ap}
use mathlib.Core.List.{List}
use Prim.Native.Nat.{ℕ}
use borrow.Author.Tests.{not-true, not-false}
use Rattle.format.specs.declared.entry.AbsLineInfo.{AbsLineInfo}
use Rattle.line_batch.specs.declared.judge.Seen.{Seen}
use Rattle.line_batch.specs.Inner.Anchors.{anchors_of}
use Rattle.line_batch.specs.Inner.Judged.{seen_of, start_seen}
use Rattle.line_lookup.specs.Lines.{large}
use Rattle.line_batch.specs.Batch.{rises}
use Rattle.line_batch.proofs.Judging.{seen_large, seen_rises, stop_large, stop_anchors, stop_pcs, stop_space, go}
use Rattle.line_batch.proofs.judge.judge.Goals as goal

-- what was seen is what the definitions ask
module _ (line : ℕ) (anchors : List AbsLineInfo) {z : Seen} (is : z ≡ seen_of (start_seen line) anchors) where
  large_is : large line anchors ≡ z.large
  large_is = sym (ap (λ z. z.large) is ∙ seen_large line anchors)

  rises-is : rises anchors ≡ z.rising
  rises-is = sym (ap (λ z. z.rising) is ∙ seen_rises line anchors)

pub returns-then-seen : goal.returns-then-seen
returns-then-seen c = let a = c.args in
    let x = anchors_of a.s.now a.all in
    stop_large a.line_defined x a.space a.pcs.now (large_is a.line_defined x c.see_anchors-seen.ensures ∙ c.if-seen.true)

pub returns-then-not-seen : goal.returns-then-not-seen
returns-then-not-seen c = let a = c.args in
    let x = anchors_of a.s.now a.all in
    stop_anchors a.line_defined x a.space a.pcs.now (large_is a.line_defined x c.see_anchors-seen.ensures ∙ c.if-seen.false) (rises-is a.line_defined x c.see_anchors-seen.ensures ∙ not-true _ c.if-not-seen.true)

pub returns-then-not-never_falls : goal.returns-then-not-never_falls
returns-then-not-never_falls c = let a = c.args in
    let x = anchors_of a.s.now a.all in
    stop_pcs a.line_defined x a.space a.pcs.now (large_is a.line_defined x c.see_anchors-seen.ensures ∙ c.if-seen.false) (rises-is a.line_defined x c.see_anchors-seen.ensures ∙ not-false _ c.if-not-seen.false) (sym c.never_falls.ensures ∙ c.if-not-never_falls.true)

pub returns-then-space-pcs : goal.returns-then-space-pcs
returns-then-space-pcs c = let a = c.args in
    let x = anchors_of a.s.now a.all in
    stop_space a.line_defined x a.space a.pcs.now (large_is a.line_defined x c.see_anchors-seen.ensures ∙ c.if-seen.false) (rises-is a.line_defined x c.see_anchors-seen.ensures ∙ not-false _ c.if-not-seen.false) (sym c.never_falls.ensures ∙ c.if-not-never_falls.false) c.if-space-pcs.true

pub returns : goal.returns
returns c = let a = c.args in
    let x = anchors_of a.s.now a.all in
    go a.line_defined x a.space a.pcs.now (large_is a.line_defined x c.see_anchors-seen.ensures ∙ c.if-seen.false) (rises-is a.line_defined x c.see_anchors-seen.ensures ∙ not-false _ c.if-not-seen.false) (sym c.never_falls.ensures ∙ c.if-not-never_falls.false) c.if-space-pcs.false
