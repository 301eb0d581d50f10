-- The twelve numbers of an instruction word, and the word of nine numbers, for C (include/lafzimdo.h): words whose fields all differ, one of each mode and one without an opcode; antt computes both lists.
--     words_hold       opcode, mode, a, k, b, sb, c, sc, bx, sbx, ax, sj
--     spelt_hold       the word of op, a, k, b, c, bx, sbx, ax, sj: each mode takes its own
-- Told apart: two fields or two modes exchanged, a sign left out, a field taken that the mode does not use.
-- Assumes nothing.
use mathlib.Core.Path.{◌≡◌, refl}
use mathlib.Core.List.{List, [], ◌∷◌, map}
use Prim.Native.Nat.{ℕ, ◌+◌, ◌*◌, ◌-◌, ◌^◌}
use lib.IntN.{pos, negsuc}
use Rattle.format.specs.declared.refusal.Refusal.TheVariants.{NoOpcode}
use Rattle.word_fields.specs.Word.{decoded, encoded}
use Rattle.c_boundary.specs.Status.{Answer, done, refuses}
use Rattle.c_words.specs.Words.{word_numbers, spelt, of_encoded}

-- MOVE, LOADK, LOADI, EXTRAARG, JMP, and 83
words : List (ℕ × List ℕ)
words =
    (0x068c0280, 0 ∷ 0 ∷ 5 ∷ 0 ∷ 140 ∷ 13 ∷ 6 ∷ (2 ^ 64 - 121) ∷ 3352 ∷ (2 ^ 64 - 62183) ∷ 858117 ∷ (2 ^ 64 - 15919098) ∷ [])
    ∷ (0xfac88283, 3 ∷ 1 ∷ 5 ∷ 1 ∷ 200 ∷ 73 ∷ 250 ∷ 123 ∷ 128401 ∷ 62866 ∷ 32870661 ∷ 16093446 ∷ [])
    ∷ (0xc8038101, 1 ∷ 2 ∷ 2 ∷ 1 ∷ 3 ∷ (2 ^ 64 - 124) ∷ 200 ∷ 73 ∷ 102407 ∷ 36872 ∷ 26216194 ∷ 9438979 ∷ [])
    ∷ (0x64c882d2, 82 ∷ 3 ∷ 5 ∷ 1 ∷ 200 ∷ 73 ∷ 100 ∷ (2 ^ 64 - 27) ∷ 51601 ∷ (2 ^ 64 - 13934) ∷ 13209861 ∷ (2 ^ 64 - 3567354) ∷ [])
    ∷ (0x0b0903b8, 56 ∷ 4 ∷ 7 ∷ 0 ∷ 9 ∷ (2 ^ 64 - 118) ∷ 11 ∷ (2 ^ 64 - 116) ∷ 5650 ∷ (2 ^ 64 - 59885) ∷ 1446407 ∷ (2 ^ 64 - 15330808) ∷ [])
    ∷ (0x0b0983d3, 83 ∷ 5 ∷ 7 ∷ 1 ∷ 9 ∷ (2 ^ 64 - 118) ∷ 11 ∷ (2 ^ 64 - 116) ∷ 5651 ∷ (2 ^ 64 - 59884) ∷ 1446663 ∷ (2 ^ 64 - 15330552) ∷ [])
    ∷ []

words_hold : map (λ c. word_numbers (decoded c.0)) words ≡ map (λ c. c.1) words
unfolding words decoded
words_hold = refl

-- MOVE, LOADK, LOADI, EXTRAARG, JMP, and 83, each with the same nine numbers
abbrev asked : ℕ → Answer
asked op = of_encoded (encoded (spelt op 1 1 2 3 4 (pos 5) 6 (negsuc 6)))

spelt_hold : map asked (0 ∷ 3 ∷ 1 ∷ 82 ∷ 56 ∷ 83 ∷ [])
    ≡ done ((0 + 0x80 * 1 + 0x8000 * 1 + 0x10000 * 2 + 0x1000000 * 3) ∷ [])
    ∷ done ((3 + 0x80 * 1 + 0x8000 * 4) ∷ [])
    ∷ done ((1 + 0x80 * 1 + 0x8000 * (65535 + 5)) ∷ [])
    ∷ done ((82 + 0x80 * 6) ∷ [])
    ∷ done ((56 + 0x80 * (16777215 - 7)) ∷ [])
    ∷ refuses NoOpcode
    ∷ []
unfolding encoded
spelt_hold = refl
