-- Where the limits of strings and of instructions in all are tested (01, 'Limits'): every string of a function, not its source alone; and every function before, also those that nest in one before. One theorem over each list, which antt computes.
--     above_refused    a string of two bytes as source, short and long constant, local name and upvalue name: under a limit of 1 refusal 13 at its size
--     within-read      under a limit of 2 each is read
--     totals_hold      main, in it a function with one in it that has a word, and behind them one with a word: under a limit of 1 word in all refusal 15 at the last one's count, under 2 it is read
-- Told apart: the limit not tested, or another one tested, for one of these strings; instructions counted of main, of functions around and of those side by side alone.
-- Assumes nothing.
use mathlib.Core.Path.{◌≡◌, refl}
use mathlib.Core.List.{List, [], ◌∷◌, ◌++◌, map}
use Prim.Native.Nat.{ℕ}
use lib.ListN.{length, replicate}
use Rattle.format.specs.declared.limits.ResourceLimits.{ResourceLimits}
use Rattle.format.specs.declared.refusal.Refusal.{Refusal}
use Rattle.format.specs.declared.refusal.Refusal.TheVariants.{StringBytes, TotalInstructions}
use Rattle.format.specs.Form.{Bytes}
use Rattle.format.specs.Limits.{DEEPEST}
use Rattle.format.specs.ReadChunk.{body, function, Outcome, shown, refusal, read}
use Rattle.format.proofs.Distinct.{header, little}

-- the ceilings but for strings and instructions in all
abbrev limits : ℕ → ℕ → ResourceLimits
limits string all_instructions = record {
  max_input_bytes = 16777216;
  max_nesting_depth = DEEPEST;
  max_total_prototypes = 16777216;
  max_instructions_per_proto = 16777216;
  max_total_instructions = all_instructions;
  max_constants_per_proto = 16777216;
  max_upvalues_per_proto = 16777216;
  max_string_bytes = string;
  max_diagnostics = 10000;
}

-- the refusal, or how many functions there are
data Result : Type 0 where
  refuses : Refusal → Result
  reads : ℕ → Result

abbrev result : Outcome → Result
result (shown r) = reads (length r.functions)
result (refusal q) = refuses q

-- ## Strings
-- main's source stands at 32; a string of two bytes
abbrev two : Bytes
two = 0x83 ∷ 0x61 ∷ 0x62 ∷ []

-- lines and three bytes, and then so many empty lists
abbrev plain : ℕ → Bytes
plain lists = 0x80 ∷ 0x80 ∷ 0 ∷ 0 ∷ 2 ∷ replicate lists 0x80

-- main's bytes, and the place of the string's size
strings : List (Bytes × ℕ)
strings =
    (two ++ plain 8, 32)
    -- short and long, the only constant
    ∷ ((0x80 ∷ plain 1) ++ (0x81 ∷ 4 ∷ two) ++ replicate 6 0x80, 41)
    ∷ ((0x80 ∷ plain 1) ++ (0x81 ∷ 20 ∷ two) ++ replicate 6 0x80, 41)
    -- the only local's name; the only upvalue name
    ∷ ((0x80 ∷ plain 6) ++ (0x81 ∷ two) ++ (0x80 ∷ 0x80 ∷ 0x80 ∷ []), 45)
    ∷ ((0x80 ∷ plain 7) ++ (0x81 ∷ two), 46)
    ∷ []

above_refused : map (λ c. result (read (limits 1 9) (header ++ 0 ∷ c.0))) strings ≡ map (λ c. refuses (StringBytes c.1)) strings
unfolding strings read body function
above_refused = refl

within-read : map (λ c. result (read (limits 2 9) (header ++ 0 ∷ c.0))) strings ≡ replicate 5 (reads 1)
unfolding strings read body function
within-read = refl

-- ## Instructions in all
-- a function with a word: its count stands behind six bytes
abbrev word : Bytes
word = (0x80 ∷ plain 0) ++ (0x81 ∷ 0 ∷ 0 ∷ 0 ∷ 0 ∷ replicate 7 0x80)

-- main at 32, in it at 42 a function around one with a word (at 52), and at 74 another one with a word
nested : Bytes
nested = header ++ (0 ∷ 0x80 ∷ plain 3) ++ (0x82 ∷ ((0x80 ∷ plain 3) ++ (0x81 ∷ word) ++ replicate 4 0x80)) ++ word ++ replicate 4 0x80

totals_hold : result (read (limits 9 0) nested) ∷ result (read (limits 9 1) nested) ∷ result (read (limits 9 2) nested) ∷ [] ≡ refuses (TotalInstructions 58) ∷ refuses (TotalInstructions 80) ∷ reads 4 ∷ []
unfolding nested read body function
totals_hold = refl
