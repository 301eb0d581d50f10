-- A function at a place for C (include/lafzimdo.h), on a chunk whose function 4 begins at place 81 and has numbers that all differ (crates/format/proofs/Distinct.antt): places and numbers, which antt computes.
--     parts_hold       the head at 81, the tail at 227
-- Told apart: two numbers of an array exchanged, a count for a place, the place behind left out.
-- Assumes nothing.
use mathlib.Core.Path.{◌≡◌, refl}
use mathlib.Core.List.{List, [], ◌∷◌, map}
use Prim.Native.Nat.{ℕ}
use Rattle.format.specs.Limits.{DEEPEST, MOST}
use Rattle.format.proofs.Distinct.{distinct}
use Rattle.c_boundary.specs.Status.{Answer, done}
use Rattle.c_parts.specs.PartNumbers.{head_at, tail_at}

abbrev ceilings : List ℕ
ceilings = MOST ∷ DEEPEST ∷ MOST ∷ MOST ∷ MOST ∷ MOST ∷ MOST ∷ MOST ∷ 10000 ∷ []

parts : List (Answer × List ℕ)
unfolding distinct
parts =
    -- source; lines; three bytes; count and place of instructions, constants, upvalues, nested functions
    (head_at ceilings 81 distinct, 1 ∷ 82 ∷ 12 ∷ 13 ∷ 14 ∷ 15 ∷ 16 ∷ 17 ∷ 5 ∷ 100 ∷ 7 ∷ 121 ∷ 6 ∷ 152 ∷ 4 ∷ 171 ∷ [])
    -- one without a source
    ∷ (head_at ceilings 71 distinct, 0 ∷ 0 ∷ 0 ∷ 0 ∷ 0 ∷ 0 ∷ 0 ∷ 2 ∷ 0 ∷ 78 ∷ 0 ∷ 79 ∷ 0 ∷ 80 ∷ 1 ∷ 81 ∷ [])
    -- count and place of deltas, anchors, locals, upvalue names; the place behind
    ∷ (tail_at ceilings 227 distinct, 8 ∷ 228 ∷ 9 ∷ 237 ∷ 10 ∷ 256 ∷ 11 ∷ 288 ∷ 300 ∷ [])
    ∷ []

parts_hold : map (λ c. c.0) parts ≡ map (λ c. done c.1) parts
unfolding parts distinct
parts_hold = refl
