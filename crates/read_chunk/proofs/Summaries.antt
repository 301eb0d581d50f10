-- The summary of a chunk against its reading.
-- Assumes nothing.
use mathlib.Core.Path.{◌≡◌, refl, sym}
use mathlib.Core.Bool.{Bool, true, false, true≢false, ◌&&◌, cond}
use mathlib.Core.List.{[], ◌∷◌}
use Prim.Native.Nat.{ℕ, ◌≤◌}
use native.Mathlib.Omega.{arith}
use borrow.Author.Tests.{leb-true}
use lib.Dec.{leb, eqb}
use Rattle.format.specs.declared.limits.ResourceLimits.{ResourceLimits}
use Rattle.format.specs.declared.header.Warning.TheVariants as code
use Rattle.format.specs.Limits.{within_ceilings, DEEPEST, MOST, Walkable}
use Rattle.format.specs.GrammarHeader.{Headed, Header, format_warnings}
use Rattle.format.specs.GrammarChunk.{Main}
use Rattle.format.proofs.Every.{Every, any, every_then, every_is}
use Rattle.read_header.specs.Shown.{first_warning}
use Rattle.read_chunk.specs.Inner.Decoded.{list_of}

-- ## Warnings
-- the header has at most one warning
one_warning_lem : (place format : ℕ) → format_warnings place format ≡ list_of (first_warning (format_warnings place format))
one_warning_lem place format = by (eqb format 0)
  where
    by : (b : Bool) → cond b [] (code.NonStandardFormat place ∷ []) ≡ list_of (first_warning (cond b [] (code.NonStandardFormat place ∷ [])))
    by true = refl
    by false = refl

abbrev pub AtMostOne : Headed → Type 0
AtMostOne h = h.warnings ≡ list_of (first_warning h.warnings)

pub every_header : Every Header AtMostOne
every_header = every_then any λ _ _. every_then any λ place _. every_then any λ format _. every_then any λ _ _. every_is (one_warning_lem place format)

pub every_main : (L : ResourceLimits) → Every (Main L) (λ m. AtMostOne m.headed)
every_main L = every_then every_header λ headed p. every_then any λ _ _. every_then any λ _ _. every_is p

-- ## The ceilings
both : (b c : Bool) → b && c ≡ true → (b ≡ true) × (c ≡ true)
both true true e = (refl, refl)
both true false e = absurd (let z : ◌≡◌ {A = ℕ} 0 1 = cc in omega arith)
both false c e = absurd (let z : ◌≡◌ {A = ℕ} 0 1 = cc in omega arith)

pub in_ceilings : (L : ResourceLimits) → within_ceilings L ≡ true → (L.max_nesting_depth ≤ DEEPEST) × Walkable L
in_ceilings L e =
    let input = leb L.max_input_bytes MOST in
    let nesting = leb L.max_nesting_depth DEEPEST in
    let protos = leb L.max_total_prototypes MOST in
    let code = leb L.max_instructions_per_proto MOST in
    let total = leb L.max_total_instructions MOST in
    let constants = leb L.max_constants_per_proto MOST in
    let upvalues = leb L.max_upvalues_per_proto MOST in
    let strings = leb L.max_string_bytes MOST in
    let eight = (both (input && nesting && protos && code && total && constants && upvalues && strings) _ e).0 in
    let seven = (both (input && nesting && protos && code && total && constants && upvalues) strings eight).0 in
    let six = (both (input && nesting && protos && code && total && constants) upvalues seven).0 in
    let five = both (input && nesting && protos && code) total (both (input && nesting && protos && code && total) constants six).0 in
    let three = both (input && nesting) protos (both (input && nesting && protos) code five.0).0 in
    let two = both input nesting three.0 in
    (leb-true _ DEEPEST two.1, (leb-true _ MOST three.1, leb-true _ MOST five.1))

pub input_ceiling : (L : ResourceLimits) → within_ceilings L ≡ true → L.max_input_bytes ≤ MOST
input_ceiling L e = by (leb L.max_input_bytes MOST) refl
  where
    by : (t : Bool) → leb L.max_input_bytes MOST ≡ t → L.max_input_bytes ≤ MOST
    by true h = leb-true L.max_input_bytes MOST h
    by false h = absurd (true≢false (sym (rw h at e)))
