-- Main as one function of a list: what is read of the list is what is read of main. Assumes nothing.
use mathlib.Core.Path.{◌≡◌, refl, ◌∙◌, ap}
use mathlib.Core.List.{List, [], ◌++◌, append-nil}
use Prim.Native.Nat.{ℕ, ◌+◌}
use native.Mathlib.Omega.{arith}
use Rattle.format.specs.declared.limits.ResourceLimits.{ResourceLimits}
use Rattle.format.specs.Form.{Bytes}
use Rattle.format.specs.Reading.{Prototype}
use Rattle.format.specs.GrammarChunk.{Where}
use Rattle.format.specs.Read.{Read, ok, refused, Reader, next, give}
use Rattle.format.specs.ReadChunk.{forest, function}
use Rattle.read_walk.specs.Inner.Skim.{entered_by, entered}
use Rattle.read_walk.proofs.Entering.{enters_by}

alone : (o : Read (List Prototype)) → next o (λ ps. give (ps ++ [])) ≡ o
alone (ok ps to rest) = ap (λ ps. ok ps to rest) (append-nil ps)
alone (refused q) = refl

-- whatever reads a function
pub alone_by : (f : ℕ → Where → Reader (List Prototype)) (L : ResourceLimits) (left : ℕ) (w : Where) (at : ℕ) (s : Bytes) → w.number ≡ 0 → forest 1 (entered_by f L (left + 1)) w at s ≡ f left w at s
alone_by f L left w at s e = alone (entered_by f L (left + 1) w at s) ∙ enters_by f L (left + 1) w at s (omega arith) (omega (arith, e)) ∙ ap (λ n. f n w at s) (omega arith)

pub main_alone : (L : ResourceLimits) (left : ℕ) (w : Where) (at : ℕ) (s : Bytes) → w.number ≡ 0 → forest 1 (entered L (left + 1)) w at s ≡ function L left w at s
main_alone L left w at s e = alone_by (function L) L left w at s e
