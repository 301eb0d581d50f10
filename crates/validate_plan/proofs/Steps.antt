-- The steps of a search, one after the other: after k of them, what is left is the list without its first k.
--     After l k rest       after k steps through l, rest is left
--     left_over            so many are left
--     step_found           a finding of step k is finding k
--     step_done            where a step has none, there are k
-- Assumes nothing.
use mathlib.Core.Path.{◌≡◌, refl, sym, ap, ◌∙◌}
use mathlib.Core.Bool.{Bool}
use mathlib.Core.List.{List, [], ◌∷◌}
use Prim.Native.Nat.{ℕ, suc, ◌+◌, ◌<◌, ◌≤◌}
use native.Mathlib.Numerals.{add-one}
use native.Mathlib.Omega.{arith}
use lib.ListN.{length, get_or, drop, length-drop}
use lib.Seq.{drop-cons}
use Rattle.format.specs.declared.limits.ResourceLimits.{ResourceLimits}
use Rattle.format.specs.Form.{Bytes}
use Rattle.validate_rules.specs.Findings.{Listing, ended, prepend}
use Rattle.validate_search.specs.Inner.Position.{out_of, stepped}
use Rattle.validate_rules.specs.declared.finding.Finding.{Finding}
use Rattle.validate_search.specs.declared.search.Position.{Position}
use Rattle.validate_search.specs.declared.search.Step.TheVariants.{Found}

pub record After (l : Listing) (k : ℕ) (rest : Listing) : Type 0 where
  pub within : k ≤ length l.findings
  pub findings : rest.findings ≡ drop k l.findings

pub at_first : (l : Listing) → After l 0 l
at_first l = record { within = omega arith; findings = refl }

module _ (l : Listing) (k : ℕ) (rest : Listing) (a : After l k rest) where
  pub left_over : length rest.findings + k ≡ length l.findings
  left_over = omega (arith, a.within, ap (λ (x : List Finding). length x) a.findings, length-drop k l.findings)

  module _ (f : Finding) (next : Listing) (e : rest ≡ prepend (f ∷ []) next) where
    more : k < length l.findings
    more = omega (arith, left_over, ap (λ (x : Listing). length x.findings) e)

    split : f ∷ next.findings ≡ get_or l.findings k f ∷ drop (suc k) l.findings
    split = sym (ap (λ (x : Listing). x.findings) e) ∙ a.findings ∙ drop-cons l.findings k f more

    finding_is : f ≡ get_or l.findings k f
    finding_is = let p = split in cc

    after_more : After l (k + 1) next
    after_more = record { within = omega (arith, more); findings = let p = split in rw (add-one k) (cc) }

  pub step_done : (b : Bool) → rest ≡ ended b → length l.findings ≡ k
  step_done b e = omega (arith, left_over, ap (λ (x : Listing). length x.findings) e)

  module _ (L : ResourceLimits) (s : Bytes) (max : ℕ) where
    pub step_found : (f : Finding) (next : Position) → rest ≡ stepped L s max (Found f next)
        → (f ≡ get_or l.findings k f) × After l (k + 1) (out_of L s max next)
    step_found f next e = (finding_is f _ e, after_more f _ e)
