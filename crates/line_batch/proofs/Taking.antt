-- Taking anchors, one turn at a time.
-- Assumes nothing.
use mathlib.Core.Path.{◌≡◌, sym, ◌∙◌, ap}
use mathlib.Core.Bool.{cond}
use mathlib.Core.List.{List, [], ◌∷◌}
use Prim.Native.Nat.{ℕ, ◌≤◌, ◌<◌}
use borrow.Author.Tests.{le-leb, lt-leb}
use lib.IntN.{pos}
use Rattle.format.specs.declared.entry.AbsLineInfo.{AbsLineInfo}
use Rattle.format.specs.Form.{Bytes}
use Rattle.line_batch.specs.declared.anchors.Anchors.{Anchors}
use Rattle.line_batch.specs.declared.walk.Walk.{Walk}
use Rattle.line_batch.specs.Inner.Anchors.{anchors_of}
use Rattle.line_batch.specs.Inner.Walk.{Step, take_up, take_step}
use Rattle.line_batch.specs.Inner.Steps.{step_of}

abbrev with_left : Walk → List AbsLineInfo → Step
with_left w left = record { left = left; at = w.at; from = w.from; sum = w.sum; read = w.read }

module _ (s : Bytes) (pc : ℕ) (w : Walk) where
  pub none_left : anchors_of s w.rest ≡ [] → take_step pc (step_of s w) ≡ step_of s w
  none_left e = ap (λ l. take_step pc (with_left w l)) e ∙ sym (ap (with_left w) e)

  module _ (a : AbsLineInfo) (rest : Anchors) (e : anchors_of s w.rest ≡ a ∷ anchors_of s rest) where
    pub stays : pc < a.pc → take_step pc (step_of s w) ≡ step_of s w
    stays h =
        ap (λ l. take_step pc (with_left w l)) e
        ∙ ap (λ t. cond t (take_up pc (anchors_of s rest) a.pc a.line (pos 0) w.read) (with_left w (a ∷ anchors_of s rest))) (lt-leb a.pc pc h)
        ∙ sym (ap (with_left w) e)

    pub moves : a.pc ≤ pc → take_step pc (step_of s w) ≡ take_step pc (step_of s (record { rest = rest; at = a.pc; from = a.line; sum = pos 0; read = w.read }))
    moves h =
        ap (λ l. take_step pc (with_left w l)) e
        ∙ ap (λ t. cond t (take_up pc (anchors_of s rest) a.pc a.line (pos 0) w.read) (with_left w (a ∷ anchors_of s rest))) (le-leb a.pc pc h)
