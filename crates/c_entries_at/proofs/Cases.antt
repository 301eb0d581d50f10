-- Entries at a place for C (include/lafzimdo.h), on a chunk whose function 4 begins at place 81 and has numbers that all differ (crates/format/proofs/Distinct.antt): places and numbers, which antt computes.
--     entries_hold     a word, an upvalue, a delta, an anchor, constants, locals and strings, each with the place behind
-- Told apart: two numbers of an array exchanged, the place behind left out, an absent name shown as `?`.
-- Assumes nothing.
use mathlib.Core.Path.{◌≡◌, refl}
use mathlib.Core.List.{List, [], ◌∷◌, map}
use Prim.Native.Nat.{ℕ, ◌-◌, ◌^◌}
use Rattle.format.specs.Limits.{DEEPEST, MOST}
use Rattle.format.proofs.Distinct.{distinct}
use Rattle.c_boundary.specs.Status.{Answer, done}
use Rattle.c_entries_at.specs.EntryNumbers.{word_at, constant_at, upvalue_at, delta_at, anchor_at, local_at, string_at}

abbrev ceilings : List ℕ
ceilings = MOST ∷ DEEPEST ∷ MOST ∷ MOST ∷ MOST ∷ MOST ∷ MOST ∷ MOST ∷ 10000 ∷ []

entries : List (Answer × List ℕ)
unfolding distinct
entries =
    -- a word; an upvalue; a delta of −1; an anchor
    (word_at ceilings 100 distinct, 0x04030201 ∷ 104 ∷ [])
    ∷ (upvalue_at ceilings 152 distinct, 1 ∷ 2 ∷ 3 ∷ 155 ∷ [])
    ∷ (delta_at ceilings 228 distinct, (2 ^ 64 - 1) ∷ 229 ∷ [])
    ∷ (anchor_at ceilings 237 distinct, 3 ∷ 4 ∷ 239 ∷ [])
    -- true, an integer, a long string
    ∷ (constant_at ceilings 123 distinct, 17 ∷ 0 ∷ 0 ∷ 124 ∷ [])
    ∷ (constant_at ceilings 124 distinct, 3 ∷ 0x0605 ∷ 0 ∷ 133 ∷ [])
    ∷ (constant_at ceilings 146 distinct, 20 ∷ 148 ∷ 3 ∷ 151 ∷ [])
    -- a local with a name, one without; a name, one that is absent
    ∷ (local_at ceilings 256 distinct, 1 ∷ 257 ∷ 1 ∷ 5 ∷ 6 ∷ 260 ∷ [])
    ∷ (local_at ceilings 260 distinct, 0 ∷ 0 ∷ 0 ∷ 0 ∷ 0 ∷ 263 ∷ [])
    ∷ (string_at ceilings 288 distinct, 1 ∷ 289 ∷ 1 ∷ 290 ∷ [])
    ∷ (string_at ceilings 290 distinct, 0 ∷ 0 ∷ 0 ∷ 291 ∷ [])
    ∷ []

entries_hold : map (λ c. c.0) entries ≡ map (λ c. done c.1) entries
unfolding entries distinct
entries_hold = refl
