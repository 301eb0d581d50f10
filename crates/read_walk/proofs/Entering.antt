-- Entering a function that nests in another: too deep, one too many, or its body.
-- Assumes nothing.
use mathlib.Core.Path.{◌≡◌, refl, ◌∙◌, ap}
use mathlib.Core.List.{List}
use Prim.Native.Nat.{ℕ, zero, suc, ◌-◌, ◌<◌, ◌≤◌}
use native.Mathlib.Omega.{arith}
use borrow.Author.Tests.{le-leb, lt-leb}
use Rattle.format.specs.declared.limits.ResourceLimits.{ResourceLimits}
use Rattle.format.specs.declared.refusal.Refusal.TheVariants.{NestingDepth, TotalPrototypes}
use Rattle.format.specs.Form.{Bytes, Form, Then, Nothing, Given}
use Rattle.format.specs.Reading.{Prototype}
use Rattle.format.specs.GrammarChunk.{Where, Function}
use Rattle.format.specs.Read.{Reader, refused}
use Rattle.format.specs.ReadChunk.{function, body}
use Rattle.format.proofs.Exact.{Exact, exact_then, exact_place, exact_at_most}
use Rattle.format.proofs.ExactChunk.{exact_refuse, exact_function}
use Rattle.read_walk.specs.Inner.Skim.{entered_by, entered}

abbrev pub EnteredBy : (ℕ → Where → Form (List Prototype)) → ResourceLimits → ℕ → Where → Form (List Prototype)
EnteredBy F L zero w = Nothing
EnteredBy F L (suc left) w = Then (Given (w.number ≤ L.max_total_prototypes)) λ _. F left w

pub exact_entered_by : {f : ℕ → Where → Reader (List Prototype)} {F : ℕ → Where → Form (List Prototype)} → ((left : ℕ) (w : Where) → Exact (f left w) (F left w)) → (L : ResourceLimits) (left : ℕ) (w : Where) → Exact (entered_by f L left w) (EnteredBy F L left w)
exact_entered_by exact L zero w = exact_place λ place. exact_refuse _
exact_entered_by exact L (suc left) w = exact_place λ place. exact_then (exact_at_most w.number L.max_total_prototypes (TotalPrototypes place)) λ _. exact left w

abbrev pub Entered : ResourceLimits → ℕ → Where → Form (List Prototype)
Entered L left w = EnteredBy (Function L) L left w

pub exact_entered : (L : ResourceLimits) (left : ℕ) (w : Where) → Exact (entered L left w) (Entered L left w)
exact_entered L left w = exact_entered_by (exact_function L) L left w

pub function-body : (L : ResourceLimits) (left : ℕ) (w : Where) (at : ℕ) (s : Bytes) → function L left w at s ≡ body L (entered L left) w at s
unfolding function
function-body L zero w at s = refl
function-body L (suc left) w at s = refl

-- whatever reads the function
module _ (f : ℕ → Where → Reader (List Prototype)) (L : ResourceLimits) (left : ℕ) (w : Where) (at : ℕ) (s : Bytes) where
  pub too_deep_lem : left ≡ 0 → entered_by f L left w at s ≡ refused (NestingDepth at)
  too_deep_lem e = rw e

  pub too_many : 0 < left → L.max_total_prototypes < w.number → entered_by f L left w at s ≡ refused (TotalPrototypes at)
  too_many more h = let e : left ≡ suc (left - 1) = omega arith in rw (e, lt-leb _ _ h)

  pub enters_by : 0 < left → w.number ≤ L.max_total_prototypes → entered_by f L left w at s ≡ f (left - 1) w at s
  enters_by more h = let e : left ≡ suc (left - 1) = omega arith in ap (λ n. entered_by f L n w at s) e ∙ rw (le-leb _ _ h)

pub enters : (L : ResourceLimits) (left : ℕ) (w : Where) (at : ℕ) (s : Bytes) → 0 < left → w.number ≤ L.max_total_prototypes → entered L left w at s ≡ function L (left - 1) w at s
enters L left w at s more h = enters_by (function L) L left w at s more h
