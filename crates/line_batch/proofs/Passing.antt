-- Passing anchors by their numbers, one turn at a time.
-- Assumes nothing.
use mathlib.Core.Path.{◌≡◌, refl, sym, ◌∙◌, ap}
use mathlib.Core.Bool.{cond}
use mathlib.Core.List.{List, [], ◌∷◌}
use Prim.Native.Nat.{ℕ, ◌+◌, ◌≤◌, ◌<◌}
use borrow.Author.Tests.{le-leb, lt-leb}
use Rattle.format.specs.declared.entry.AbsLineInfo.{AbsLineInfo}
use Rattle.format.specs.Form.{Bytes}
use Rattle.line_batch.specs.declared.anchors.Anchors.{Anchors}
use Rattle.line_batch.specs.declared.numbered.Numbered.{Numbered}
use Rattle.line_batch.specs.Inner.Anchors.{anchors_of}
use Rattle.line_batch.specs.Inner.Numbered.{Passed, passed_by, pass_up, pass_to}

abbrev with_left : Numbered → List AbsLineInfo → Passed
with_left z left = record { left = left; number = z.number; line = z.line }

module _ (s : Bytes) (pc : ℕ) (z : Numbered) where
  pub none_left : anchors_of s z.rest ≡ [] → pass_to pc (passed_by s z) ≡ passed_by s z
  none_left e = ap (λ l. pass_to pc (with_left z l)) e ∙ sym (ap (with_left z) e)

  pub reached : pc < z.number → pass_to pc (passed_by s z) ≡ passed_by s z
  reached h = by (anchors_of s z.rest)
    where
      by : (l : List AbsLineInfo) → pass_to pc (with_left z l) ≡ with_left z l
      by [] = refl
      by (a ∷ more) = ap (λ t. cond t (pass_up pc more (z.number + 1) a.line) (with_left z (a ∷ more))) (lt-leb z.number pc h)

  pub goes_on_lem : (a : AbsLineInfo) (rest : Anchors) → anchors_of s z.rest ≡ a ∷ anchors_of s rest → z.number ≤ pc
      → pass_to pc (passed_by s z) ≡ pass_to pc (passed_by s (record { rest = rest; number = z.number + 1; line = a.line }))
  goes_on_lem a rest e h =
      ap (λ l. pass_to pc (with_left z l)) e
      ∙ ap (λ t. cond t (pass_up pc (anchors_of s rest) (z.number + 1) a.line) (with_left z (a ∷ anchors_of s rest))) (le-leb z.number pc h)
