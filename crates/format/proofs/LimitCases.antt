-- The ceilings as 01 prints them ('Limits'; that of nesting: 02, item 5), and what is refused above each of them; one theorem over each list, which antt computes.
--     ceilings_are     nesting 14, diagnostics 10,000, the others 16,777,216
--     above_refused    each limit one above its ceiling, the others at theirs: 21, whatever the file is (told apart: a limit that is not tested, a ceiling one higher)
--     within-read      at the ceilings, and with every limit 0: not 21 (told apart: a ceiling one lower, zero not allowed)
-- Assumes nothing.
use mathlib.Core.Path.{◌≡◌, refl}
use mathlib.Core.List.{List, [], ◌∷◌, map}
use Prim.Native.Nat.{ℕ, ◌+◌}
use lib.ListN.{replicate}
use Rattle.format.specs.declared.limits.ResourceLimits.{ResourceLimits}
use Rattle.format.specs.declared.refusal.Refusal.TheVariants.{Truncated, LimitAboveCeiling, InputBytes}
use Rattle.format.specs.Form.{Bytes}
use Rattle.format.specs.Limits.{DEEPEST, MOST, ceilings}
use Rattle.format.specs.ReadChunk.{body, function, Outcome, refusal, read}

-- in the order of `ResourceLimits`
abbrev limits : ℕ → ℕ → ℕ → ℕ → ℕ → ℕ → ℕ → ℕ → ℕ → ResourceLimits
limits input nesting prototypes instructions all_instructions constants upvalues string diagnostics = record {
  max_input_bytes = input;
  max_nesting_depth = nesting;
  max_total_prototypes = prototypes;
  max_instructions_per_proto = instructions;
  max_total_instructions = all_instructions;
  max_constants_per_proto = constants;
  max_upvalues_per_proto = upvalues;
  max_string_bytes = string;
  max_diagnostics = diagnostics;
}

abbrev top : ResourceLimits
top = limits 16777216 14 16777216 16777216 16777216 16777216 16777216 16777216 10000

ceilings_are : ceilings ≡ top
ceilings_are = refl

above : List ResourceLimits
above =
    limits (MOST + 1) DEEPEST MOST MOST MOST MOST MOST MOST 10000
    ∷ limits MOST (DEEPEST + 1) MOST MOST MOST MOST MOST MOST 10000
    ∷ limits MOST DEEPEST (MOST + 1) MOST MOST MOST MOST MOST 10000
    ∷ limits MOST DEEPEST MOST (MOST + 1) MOST MOST MOST MOST 10000
    ∷ limits MOST DEEPEST MOST MOST (MOST + 1) MOST MOST MOST 10000
    ∷ limits MOST DEEPEST MOST MOST MOST (MOST + 1) MOST MOST 10000
    ∷ limits MOST DEEPEST MOST MOST MOST MOST (MOST + 1) MOST 10000
    ∷ limits MOST DEEPEST MOST MOST MOST MOST MOST (MOST + 1) 10000
    ∷ limits MOST DEEPEST MOST MOST MOST MOST MOST MOST 10001
    ∷ []

above_refused : (chunk : Bytes) → map (λ L. read L chunk) above ≡ replicate 9 (refusal LimitAboveCeiling)
unfolding above read
above_refused chunk = refl

-- limits, a file, and the refusal: an empty file is cut short at 0; a byte more than the input limit is 22
within : List (ResourceLimits × Bytes × Outcome)
within =
    (top, [], refusal (Truncated 0))
    ∷ (limits 0 0 0 0 0 0 0 0 0, [], refusal (Truncated 0))
    ∷ (limits 0 0 0 0 0 0 0 0 0, 0x1b ∷ [], refusal InputBytes)
    ∷ []

within-read : map (λ c. read c.0 c.1) within ≡ map (λ c. c.2) within
unfolding within read body function
within-read = refl
