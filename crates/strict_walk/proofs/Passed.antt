-- Those passed so far by `pass_functions`, wherever the first of them stands: its loop's invariant.
-- Assumes nothing.
use Prim.Native.Nat.{ℕ}
use mathlib.Core.Path.{◌≡◌, subst}
use mathlib.Core.List.{List, []}
use Rattle.format.specs.declared.limits.ResourceLimits.{ResourceLimits}
use Rattle.format.specs.Form.{Bytes}
use Rattle.format.specs.Reading.{Prototype}
use Rattle.format.specs.GrammarChunk.{Where}
use Rattle.format_strict.specs.ReadStrict.{strict_function}
use Rattle.read_walk.specs.declared.walk.Skimmed.{Skimmed}
use Rattle.read_walk.specs.Inner.Skim.{entered_by}
use Rattle.read_walk.proofs.SoFar.{SoFar, starts}

pub record Passed (s : Bytes) (L : ResourceLimits) (left n from : ℕ) (k : Skimmed) (more : ℕ) (w : Where) : Type 0 where
  pub passed : List Prototype
  pub so_far : SoFar (entered_by (strict_function L) L left) s w n from k more passed

pub begin : (s : Bytes) (L : ResourceLimits) (left n : ℕ) (k : Skimmed) (w : Where) → k.number ≡ w.number → k.instructions ≡ w.instructions → Passed s L left n k.next.at k n w
begin s L left n k w e i = record { passed = []; so_far = starts (entered_by (strict_function L) L left) s w n k e i }

-- the same, by another term for how many are left
pub as_many : {s : Bytes} {L : ResourceLimits} {left n from : ℕ} {k : Skimmed} {more same : ℕ} {w : Where} → more ≡ same → Passed s L left n from k more w → Passed s L left n from k same w
as_many {s} {L} {left} {n} {from} {k} {w = w} e p = subst (λ more. Passed s L left n from k more w) e p
