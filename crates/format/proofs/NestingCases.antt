-- Chains of functions, each within the one before, at the ceiling of nesting and beside it (02, item 5): how deep, under which limit, and what becomes of it; one theorem over the list, which antt computes.
--     chains_hold      read with so many functions, or the refusal: 21 above the ceiling, whatever the chunk; 19 where the first function begins that is too deep
-- Told apart: a ceiling of 13 or of 15, a depth counted from 1, the place of the count or of the function around.
-- Assumes nothing.
use mathlib.Core.Path.{◌≡◌, refl}
use mathlib.Core.List.{List, [], ◌∷◌, ◌++◌, map}
use Prim.Native.Nat.{ℕ, zero, suc, ◌-◌, ◌^◌}
use lib.ListN.{length, replicate}
use Rattle.format.specs.declared.limits.ResourceLimits.{ResourceLimits}
use Rattle.format.specs.declared.refusal.Refusal.{Refusal}
use Rattle.format.specs.declared.refusal.Refusal.TheVariants.{NestingDepth, LimitAboveCeiling}
use Rattle.format.specs.Form.{Bytes}
use Rattle.format.specs.Limits.{MOST}
use Rattle.format.specs.ReadChunk.{body, function, Outcome, shown, refusal, read}
use Rattle.format.proofs.Distinct.{header}

-- the ceilings but for nesting
abbrev limits : ℕ → ResourceLimits
limits nesting = record {
  max_input_bytes = MOST;
  max_nesting_depth = nesting;
  max_total_prototypes = MOST;
  max_instructions_per_proto = MOST;
  max_total_instructions = MOST;
  max_constants_per_proto = MOST;
  max_upvalues_per_proto = MOST;
  max_string_bytes = MOST;
  max_diagnostics = 10000;
}

-- a function with so many within each other in it: ten bytes before each, and four behind
abbrev pub within : ℕ → Bytes
within zero = 0x80 ∷ 0x80 ∷ 0x80 ∷ 0 ∷ 0 ∷ 2 ∷ replicate 8 0x80
within (suc d) = 0x80 ∷ 0x80 ∷ 0x80 ∷ 0 ∷ 0 ∷ 2 ∷ 0x80 ∷ 0x80 ∷ 0x80 ∷ 0x81 ∷ within d ++ replicate 4 0x80

-- main begins at 32, the function of depth d at 32 + 10 * d
abbrev pub chain : ℕ → Bytes
chain d = header ++ 0 ∷ within d

-- the refusal, or how many functions there are
data Result : Type 0 where
  refuses : Refusal → Result
  reads : ℕ → Result

abbrev result : Outcome → Result
result (shown r) = reads (length r.functions)
result (refusal q) = refuses q

-- how deep, the limit, what becomes of it
chains : List (ℕ × ℕ × Result)
chains =
    (0, 0, reads 1)
    ∷ (0, 14, reads 1)
    ∷ (0, 15, refuses LimitAboveCeiling)
    ∷ (1, 0, refuses (NestingDepth 42))
    ∷ (13, 13, reads 14)
    ∷ (13, 14, reads 14)
    ∷ (14, 13, refuses (NestingDepth 172))
    ∷ (14, 14, reads 15)
    ∷ (14, 15, refuses LimitAboveCeiling)
    ∷ (14, 200, refuses LimitAboveCeiling)
    ∷ (15, 14, refuses (NestingDepth 182))
    ∷ (15, 15, refuses LimitAboveCeiling)
    ∷ (16, 14, refuses (NestingDepth 182))
    ∷ (16, 16, refuses LimitAboveCeiling)
    ∷ (200, 14, refuses (NestingDepth 182))
    ∷ (200, 200, refuses LimitAboveCeiling)
    ∷ (14, 2 ^ 64 - 1, refuses LimitAboveCeiling)
    ∷ []

chains_hold : map (λ c. result (read (limits c.1) (chain c.0))) chains ≡ map (λ c. c.2) chains
unfolding chains read body function
chains_hold = refl
