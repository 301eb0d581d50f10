-- The anchors that are left, and the first of them.
-- Assumes nothing.
use mathlib.Core.Path.{◌≡◌, ◌∙◌, ap}
use mathlib.Core.List.{[], ◌∷◌}
use Prim.Native.Nat.{suc, ◌-◌}
use native.Mathlib.Omega.{arith}
use lib.ListN.{drop}
use Rattle.format.specs.declared.entry.AbsLineInfo.{AbsLineInfo}
use Rattle.format.specs.declared.refusal.Refusal.{Refusal}
use Rattle.format.specs.Form.{Bytes}
use Rattle.format.specs.Read.{refused}
use Rattle.format.specs.ReadChunk.{anchor}
use Rattle.slice.specs.declared.cursor.Cursor.{Cursor}
use Rattle.read_field.proofs.Shows.{Was}
use Rattle.line_batch.specs.declared.anchors.Anchors.{Anchors}
use Rattle.line_batch.specs.Inner.Anchors.{or_none, anchors_at, anchors_of}

module _ (s : Bytes) (z : Anchors) where
  pub none_left : z.left ≡ 0 → anchors_of s z ≡ []
  none_left e = ap (λ n. anchors_at s n z.next.at) e

  module _ (more : z.left ≡ 0 → ⊥) where
    first_is : anchors_of s z ≡ or_none (anchor z.next.at (drop z.next.at s)) (anchors_at s (z.left - 1))
    first_is = let turn : z.left ≡ suc (z.left - 1) = omega arith in ap (λ n. anchors_at s n z.next.at) turn

    pub unreadable : (q : Refusal) → anchor z.next.at (drop z.next.at s) ≡ refused q → anchors_of s z ≡ []
    unreadable q e = first_is ∙ ap (λ o. or_none o (anchors_at s (z.left - 1))) e

    pub one-there : (a : AbsLineInfo) (behind : Cursor) → Was (anchor z.next.at (drop z.next.at s)) a behind.at → anchors_of s z ≡ a ∷ anchors_at s (z.left - 1) behind.at
    one-there a behind was = first_is ∙ ap (λ o. or_none o (anchors_at s (z.left - 1))) was.is
