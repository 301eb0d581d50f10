-- The findings by groups are those of the Rust's list and flag.
-- Assumes nothing.
use mathlib.Core.Path.{◌≡◌, refl, ap, sym, ◌∙◌}
use mathlib.Core.Bool.{Bool, true, false, cond}
use mathlib.Core.List.{List, [], ◌∷◌, ◌++◌, append_assoc, append-nil}
use Prim.Native.Nat.{ℕ, ◌+◌, ◌<◌}
use native.Mathlib.Omega.{arith}
use lib.ListN.{length, length-append}
use lib.Dec.{leb}
use Rattle.format.specs.Reading.{Prototype, Reading}
use Rattle.validate_rules.specs.Rules.{instruction}
use Rattle.validate_rules.specs.Findings.{MAX-DIAGNOSTICS, bounds_of, code_groups, groups, Listing, ended, prepend, limited, chunk_findings}
use Rattle.validate_rules.specs.Rust.{halt, over_code, over_functions, closed, over_chunk, validate}
use Rattle.validate_rules.specs.declared.finding.Finding.{Finding}
use Rattle.validate_rules.specs.declared.finding.Bounds.{Bounds}

by_test : {P : Type 0} (b : Bool) → (b ≡ true → P) → (b ≡ false → P) → P
by_test true p q = p refl
by_test false p q = q refl

abbrev going : List Finding → Listing
going l = record { findings = l; stopped = false }

module _ (max warnings : ℕ) where
  -- findings l so far, and then those of groups
  abbrev from : List (List Finding) → List Finding → Listing
  from gs l = prepend l (limited max (warnings + length l) gs)

  -- what follows a run that may have stopped
  abbrev onward : Listing → List (List Finding) → Listing
  onward r gs = cond r.stopped r (from gs r.findings)

  one_group : (g l : List Finding) (gs : List (List Finding)) → leb max (warnings + length l) ≡ false → from (g ∷ gs) l ≡ from gs (l ++ g)
  unfolding limited
  one_group g l gs e =
      let z : warnings + length l + length g ≡ warnings + length (l ++ g) = omega (arith, length-append l g) in
      rw (e, z, append_assoc)

  full : (g l : List Finding) (gs : List (List Finding)) → leb max (warnings + length l) ≡ true → from (g ∷ gs) l ≡ halt (going l)
  unfolding limited
  full g l gs e = rw (e, append-nil)

  no_group : (l : List Finding) → from [] l ≡ closed max warnings (going l)
  unfolding limited
  no_group l = rw append-nil

  over-code : (k : ℕ) (b : Bounds) (words : List ℕ) (pc : ℕ) (l : List Finding) (gs : List (List Finding))
      → from (code_groups k b words pc ++ gs) l ≡ onward (over_code max warnings k b words pc (going l)) gs
  unfolding code_groups over_code
  over-code k b [] pc l gs = refl
  over-code k b (word ∷ words) pc l gs =
      by_test (leb max (warnings + length l))
      (λ e. rw (full _ l _ e, e))
      (λ e. rw (one_group _ l _ e, e) (over-code k b words (pc + 1) (l ++ instruction k b pc word) gs))

  over_functions_lem : (k : ℕ) (ps : List Prototype) (l : List Finding) (t : Bool)
      → onward (record { findings = l; stopped = t }) (groups k ps) ≡ closed max warnings (over_functions max warnings k ps (record { findings = l; stopped = t }))
  unfolding groups over_functions
  over_functions_lem k [] l true = refl
  over_functions_lem k [] l false = no_group l
  over_functions_lem k (p ∷ ps) l true = refl
  over_functions_lem k (p ∷ ps) l false =
      let r : Listing = over_code max warnings k (bounds_of p) p.instructions 0 (going l) in
      let gs : List (List Finding) = code_groups k (bounds_of p) p.instructions 0 ++ groups (k + 1) ps in
      let same : from gs (l ++ []) ≡ from gs l = rw append-nil in
      by_test (leb max (warnings + length l))
      (λ e. rw e (full [] l gs e))
      (λ e. rw e (one_group [] l gs e ∙ same ∙ over-code k (bounds_of p) p.instructions 0 l (groups (k + 1) ps) ∙ over_functions_lem (k + 1) ps r.findings r.stopped))

  full_chunk : (p : Prototype) (ps : List Prototype) → leb max warnings ≡ true → limited max warnings (groups 0 (p ∷ ps)) ≡ ended true
  unfolding limited groups
  full_chunk p ps e = rw e

  -- main is tested twice
  over_chunk_lem : (p : Prototype) (ps : List Prototype) → over_chunk max warnings (p ∷ ps) ≡ limited max warnings (groups 0 (p ∷ ps))
  unfolding over_chunk
  over_chunk_lem p ps =
      let none : warnings + length {A = Finding} [] ≡ warnings = omega arith in
      by_test (leb max warnings)
      (λ e. rw e (sym (full_chunk p ps e)))
      (λ e. rw e (sym (over_functions_lem 0 (p ∷ ps) [] false) ∙ ap (λ n. limited max n (groups 0 (p ∷ ps))) none))

  pub over-all : (ps : List Prototype) → 0 < length ps → over_chunk max warnings ps ≡ limited max warnings (groups 0 ps)
  over-all [] h = absurd (omega arith)
  over-all (p ∷ ps) h = over_chunk_lem p ps

-- every chunk has a main function
pub validate-is : (r : Reading) → 0 < length r.functions → validate r ≡ chunk_findings r
unfolding validate chunk_findings
validate-is r h = over-all MAX-DIAGNOSTICS (length r.warnings) r.functions h
