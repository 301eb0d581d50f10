-- The anchors from a place on, as far as they can be read: what the code goes through.
use Rattle.std.specs.Prelude.{Option, Some, None}
use Rattle.std.specs.Prelude.{List, [], ◌∷◌, ℕ, zero, suc, drop}
use Rattle.format.specs.declared.entry.AbsLineInfo.{AbsLineInfo}
use Rattle.format.specs.Form.{Bytes}
use Rattle.format.specs.Read.{Read, ok, refused}
use Rattle.format.specs.ReadChunk.{anchor}
use Rattle.line_batch.specs.declared.anchors.Anchors.{Anchors}

abbrev pub or_none : Read AbsLineInfo → (ℕ → List AbsLineInfo) → List AbsLineInfo
or_none (ok a to rest) more = a ∷ more to
or_none (refused q) more = []

abbrev pub anchors_at : Bytes → ℕ → ℕ → List AbsLineInfo
anchors_at s zero at = []
anchors_at s (suc n) at = or_none (anchor at (drop at s)) (anchors_at s n)

abbrev pub anchors_of : Bytes → Anchors → List AbsLineInfo
anchors_of s z = anchors_at s z.left z.next.at

-- the first and the rest
abbrev pub next_list : Bytes → Option (AbsLineInfo × Anchors) → List AbsLineInfo
next_list s None = []
next_list s (Some (a, rest)) = a ∷ anchors_of s rest
