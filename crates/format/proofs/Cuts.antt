-- Where a file is cut short, and other places that 01 leaves to the Rust's `byte_offset`; antt computes each list.
--     cuts_hold        fronts of a chunk (Distinct.antt), and the place of refusal 1: a field's first byte, where the field has several (header fields, words, 8-byte values, a string's content, the run of deltas), else the missing byte
--     zeros_hold       a size or a count with leading zeros that is above its limit: the place of its first byte
--     absent_holds     string constants of size 0 and 1 are both empty, at the place behind the size
-- Told apart: the end of the file for every place, the place behind the leading zeros, an absent string constant left out.
-- Assumes nothing.
use mathlib.Core.Path.{◌≡◌, refl}
use mathlib.Core.List.{List, [], ◌∷◌, ◌++◌, map}
use Prim.Native.Nat.{ℕ}
use lib.ListN.{replicate, take}
use Rattle.format.specs.declared.limits.ResourceLimits.{ResourceLimits}
use Rattle.format.specs.declared.refusal.Refusal.{Refusal}
use Rattle.format.specs.declared.refusal.Refusal.TheVariants.{Truncated, StringBytes, Instructions, TotalInstructions, Constants, Upvalues, Prototypes}
use Rattle.format.specs.Form.{Bytes}
use Rattle.format.specs.Limits.{DEEPEST, ceilings}
use Rattle.format.specs.Reading.{ConstantValue, short_string, long_string, Prototype}
use Rattle.format.specs.ReadChunk.{body, function, refusal, read}
use Rattle.format.proofs.Distinct.{header, distinct, functions_of}

-- ## Cut short
-- how many bytes are left, and the place
cuts : List (ℕ × ℕ)
cuts =
    -- the header: signature, version, format, data, three sizes, integer, number; byte 31
    (0, 0) ∷ (3, 0) ∷ (4, 4) ∷ (5, 5) ∷ (11, 6) ∷ (12, 12) ∷ (13, 13) ∷ (14, 14) ∷ (22, 15) ∷ (30, 23) ∷ (31, 31)
    -- function 4: its first byte; its source; lines; bytes; the count of words, a word, the second word
    ∷ (81, 81) ∷ (93, 82) ∷ (94, 94) ∷ (95, 95) ∷ (98, 98) ∷ (99, 99) ∷ (103, 100) ∷ (105, 104)
    -- a tag, an integer, a float, a string's size, its content; an upvalue's second byte; the count of functions
    ∷ (121, 121) ∷ (132, 125) ∷ (134, 134) ∷ (143, 143) ∷ (145, 144) ∷ (153, 153) ∷ (170, 170)
    -- the count of deltas, the deltas; an anchor's second number; a local's size, its name, its last number; a name
    ∷ (227, 227) ∷ (235, 228) ∷ (238, 238) ∷ (256, 256) ∷ (257, 257) ∷ (259, 259) ∷ (289, 289) ∷ (307, 307)
    ∷ []

cuts_hold : map (λ c. read ceilings (take c.0 distinct)) cuts ≡ map (λ c. refusal (Truncated c.1)) cuts
unfolding cuts distinct read body function
cuts_hold = refl

-- ## Leading zeros
-- a limit of 0 for strings, for instructions of a function and in all, constants, upvalues and nested functions; the other limits at their ceilings
abbrev none : ℕ → ℕ → ℕ → ℕ → ℕ → ℕ → ResourceLimits
none string instructions all_instructions constants upvalues functions = record {
  max_input_bytes = 16777216;
  max_nesting_depth = DEEPEST;
  max_total_prototypes = functions;
  max_instructions_per_proto = instructions;
  max_total_instructions = all_instructions;
  max_constants_per_proto = constants;
  max_upvalues_per_proto = upvalues;
  max_string_bytes = string;
  max_diagnostics = 10000;
}

-- main behind byte 31
abbrev main : Bytes → Bytes
main b = header ++ 0 ∷ b

-- a function up to its lists, then so many empty lists, and 00 00 81
abbrev behind : ℕ → Bytes
behind lists = 0x80 ∷ 0x80 ∷ 0x80 ∷ 0 ∷ 0 ∷ 2 ∷ replicate lists 0x80 ++ (0 ∷ 0 ∷ 0x81 ∷ [])

zeros : List (ResourceLimits × Bytes × Refusal)
zeros =
    (none 0 9 9 9 9 9, main (0 ∷ 0 ∷ 0x82 ∷ []), StringBytes 32)
    ∷ (none 9 0 0 9 9 9, main (behind 0), Instructions 38)
    ∷ (none 9 1 0 9 9 9, main (behind 0), TotalInstructions 38)
    ∷ (none 9 9 9 0 9 9, main (behind 1), Constants 39)
    ∷ (none 9 9 9 9 0 9, main (behind 2), Upvalues 40)
    ∷ (none 9 9 9 9 9 0, main (behind 3), Prototypes 41)
    ∷ []

zeros_hold : map (λ c. read c.0 c.1) zeros ≡ map (λ c. refusal c.2) zeros
unfolding zeros read body function
zeros_hold = refl

-- ## Absent string constants
-- short and long of size 0, short and long of size 1
constants : Bytes
constants = main (0x80 ∷ 0x80 ∷ 0x80 ∷ 0 ∷ 0 ∷ 2 ∷ 0x80 ∷ 0x84 ∷ 4 ∷ 0x80 ∷ 20 ∷ 0x80 ∷ 4 ∷ 0x81 ∷ 20 ∷ 0x81 ∷ replicate 6 0x80)

constants_of : List Prototype → List ConstantValue
constants_of [] = []
constants_of (p ∷ ps) = p.constants

absent_holds : constants_of (functions_of (read ceilings constants))
    ≡ short_string (record { place = 42; bytes = [] }) ∷ long_string (record { place = 44; bytes = [] }) ∷ short_string (record { place = 46; bytes = [] }) ∷ long_string (record { place = 48; bytes = [] }) ∷ []
unfolding constants constants_of read body function
absent_holds = refl
