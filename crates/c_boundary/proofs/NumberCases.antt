-- The limits that C hands over, and signed numbers in 64 bits, as include/lafzimdo.h has them.
--     limits_are       nine numbers are the nine limits, in the header's order (told apart: two limits exchanged)
--     ceilings_are     LAFZIMDO_CEILINGS are the ceilings
--     signs_hold       two's complement (told apart: the sign left out, one too few below 0)
-- Assumes nothing.
use mathlib.Core.Path.{◌≡◌, refl}
use mathlib.Core.List.{List, [], ◌∷◌, map}
use Prim.Native.Nat.{ℕ, ◌-◌, ◌^◌}
use lib.IntN.{ℤ, pos, negsuc}
use Rattle.format.specs.Limits.{ceilings}
use Rattle.c_boundary.specs.Status.{limits_of, complement}

-- input bytes, nesting depth, prototypes in all, instructions of a prototype, instructions in all, constants of a prototype, upvalues of a prototype, bytes of a string, diagnostics
limits_are : limits_of (1 ∷ 2 ∷ 3 ∷ 4 ∷ 5 ∷ 6 ∷ 7 ∷ 8 ∷ 9 ∷ []) ≡ record {
  max_input_bytes = 1;
  max_nesting_depth = 2;
  max_total_prototypes = 3;
  max_instructions_per_proto = 4;
  max_total_instructions = 5;
  max_constants_per_proto = 6;
  max_upvalues_per_proto = 7;
  max_string_bytes = 8;
  max_diagnostics = 9;
}
limits_are = refl

ceilings_are : limits_of (16777216 ∷ 14 ∷ 16777216 ∷ 16777216 ∷ 16777216 ∷ 16777216 ∷ 16777216 ∷ 16777216 ∷ 10000 ∷ []) ≡ ceilings
ceilings_are = refl

-- 0, 5, 2^63 − 1; −1, −128, −2^63
signs : List (ℤ × ℕ)
signs = (pos 0, 0) ∷ (pos 5, 5) ∷ (pos (2 ^ 63 - 1), 2 ^ 63 - 1) ∷ (negsuc 0, 2 ^ 64 - 1) ∷ (negsuc 127, 2 ^ 64 - 128) ∷ (negsuc (2 ^ 63 - 1), 2 ^ 63) ∷ []

signs_hold : map (λ c. complement c.0) signs ≡ map (λ c. c.1) signs
unfolding signs
signs_hold = refl
