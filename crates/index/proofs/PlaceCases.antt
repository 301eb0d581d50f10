-- Where the words and the constants of each function begin (02, item 2), with the rest of its row: chunks behind their headers and their indices, in a list, and one theorem over the list, which antt computes.
--     places_hold      the index of each
--     lent_holds       with one number too few nothing is written, with just enough the row, and a number behind it stays
-- Told apart: the two places exchanged, the place of a count, the place behind the count's first byte, the place of another list, of the second word or constant, 0 where there is none; thirteen numbers taken for enough.
-- Assumes nothing.
use Rattle.std.specs.Prelude.{Result, Ok, Err}
use Rattle.format.specs.declared.refusal.Refusal.{Refusal}
use mathlib.Core.Path.{◌≡◌, refl}
use mathlib.Core.List.{List, [], ◌∷◌, ◌++◌, map}
use Prim.Native.Nat.{ℕ}
use lib.ListN.{length, replicate}
use Rattle.format.specs.declared.refusal.Refusal.TheVariants.{LentSpace}
use Rattle.format.specs.Form.{Bytes}
use Rattle.format.specs.Copy.{header_bytes}
use Rattle.format.specs.Limits.{ceilings}
use Rattle.format.specs.ReadChunk.{body, function, Outcome, read}
use Rattle.index.specs.Index.{shown_index, index_written}

record Case : Type 0 where
  -- byte 31 and the functions
  behind : Bytes
  rows : List ℕ

abbrev chunk : Bytes → Outcome
chunk behind = read ceilings (header_bytes 0 ++ behind)

cases : List Case
cases =
    -- 01's 46 bytes
    record { behind = 0 ∷ 0x80 ∷ 0x80 ∷ 0x80 ∷ 0 ∷ 0 ∷ 2 ∷ 0x80 ∷ 0x80 ∷ 0x80 ∷ 0x80 ∷ 0x80 ∷ 0x80 ∷ 0x80 ∷ 0x80 ∷ []; rows = 32 ∷ 46 ∷ 0 ∷ 0 ∷ 0 ∷ 0 ∷ 0 ∷ 0 ∷ 0 ∷ 0 ∷ 0 ∷ 0 ∷ 39 ∷ 40 ∷ [] }
    -- every kind of entry in main; a function with one in it, and one without anything
    ∷ record {
      behind = 0 ∷ 0x83 ∷ 0x40 ∷ 0x61 ∷ 0x81 ∷ 2 ∷ 0xac ∷ 0 ∷ 0 ∷ 2 ∷ 0x82 ∷ 0 ∷ 0 ∷ 0 ∷ 0 ∷ 0 ∷ 0 ∷ 0 ∷ 0x80 ∷ 0x89 ∷ 0 ∷ 1 ∷ 0x11 ∷ 3 ∷ 0 ∷ 0 ∷ 0 ∷ 0 ∷ 0 ∷ 0 ∷ 0 ∷ 0 ∷ 0x13 ∷ 0 ∷ 0 ∷ 0 ∷ 0 ∷ 0 ∷ 0 ∷ 0 ∷ 0 ∷ 4 ∷ 0x83 ∷ 0 ∷ 0x78 ∷ 0x14 ∷ 0x84 ∷ 0 ∷ 0 ∷ 0 ∷ 4 ∷ 0x80 ∷ 0x14 ∷ 0x81 ∷ 0x81 ∷ 0 ∷ 0 ∷ 0 ∷ 0x82 ∷ 0x80 ∷ 0x82 ∷ 0x82 ∷ 0 ∷ 0 ∷ 2 ∷ 0x80 ∷ 0x80 ∷ 0x80 ∷ 0x81 ∷ 0x83 ∷ 0x40 ∷ 0x62 ∷ 0x80 ∷ 0x80 ∷ 0 ∷ 0 ∷ 2 ∷ 0x80 ∷ 0x80 ∷ 0x80 ∷ 0x80 ∷ 0x80 ∷ 0x80 ∷ 0x80 ∷ 0x80 ∷ 0x80 ∷ 0x80 ∷ 0x80 ∷ 0x80 ∷ 0x80 ∷ 0x80 ∷ 0x80 ∷ 0 ∷ 0 ∷ 2 ∷ 0x80 ∷ 0x80 ∷ 0x80 ∷ 0x80 ∷ 0x80 ∷ 0x80 ∷ 0x80 ∷ 0x80 ∷ 0x83 ∷ 0 ∷ 0 ∷ 0x80 ∷ 0x82 ∷ 0x80 ∷ 0x85 ∷ 1 ∷ 0x80 ∷ 1 ∷ 0 ∷ 0x80 ∷ 0x82 ∷ 0x83 ∷ 0 ∷ 0x76 ∷ 0x80 ∷ 0x83 ∷ 0x80 ∷ 1 ∷ 0x80 ∷ 1 ∷ 0xc8 ∷ 0x83 ∷ 0x80 ∷ 0x81 ∷ 0x82 ∷ 0 ∷ 0 ∷ 0x80 ∷ 0 ∷ 0 ∷ [];
      rows =
          (32 ∷ 162 ∷ 0 ∷ 0 ∷ 2 ∷ 9 ∷ 1 ∷ 2 ∷ 3 ∷ 2 ∷ 2 ∷ 3 ∷ 42 ∷ 51 ∷ [])
          ++ (90 ∷ 120 ∷ 1 ∷ 0 ∷ 0 ∷ 0 ∷ 0 ∷ 1 ∷ 0 ∷ 0 ∷ 0 ∷ 0 ∷ 97 ∷ 98 ∷ [])
          ++ (100 ∷ 116 ∷ 2 ∷ 1 ∷ 0 ∷ 0 ∷ 0 ∷ 0 ∷ 0 ∷ 0 ∷ 0 ∷ 0 ∷ 109 ∷ 110 ∷ [])
          ++ (120 ∷ 134 ∷ 1 ∷ 0 ∷ 0 ∷ 0 ∷ 0 ∷ 0 ∷ 0 ∷ 0 ∷ 0 ∷ 0 ∷ 127 ∷ 128 ∷ []);
    }
    -- the counts of words and constants are 00 00 80 and 00 80: the places are behind all their bytes
    ∷ record { behind = 0 ∷ 0x80 ∷ 0x80 ∷ 0x80 ∷ 0 ∷ 0 ∷ 2 ∷ 0 ∷ 0 ∷ 0x80 ∷ 0 ∷ 0x80 ∷ 0x80 ∷ 0x80 ∷ 0x80 ∷ 0x80 ∷ 0x80 ∷ 0x80 ∷ []; rows = 32 ∷ 49 ∷ 0 ∷ 0 ∷ 0 ∷ 0 ∷ 0 ∷ 0 ∷ 0 ∷ 0 ∷ 0 ∷ 0 ∷ 41 ∷ 43 ∷ [] }
    -- the same of lists that have entries: 00 82 and two words, 00 00 81 and a constant
    ∷ record {
      behind = 0 ∷ 0x80 ∷ 0x80 ∷ 0x80 ∷ 0 ∷ 0 ∷ 2 ∷ 0 ∷ 0x82 ∷ 1 ∷ 0 ∷ 0 ∷ 0 ∷ 2 ∷ 0 ∷ 0 ∷ 0 ∷ 0 ∷ 0 ∷ 0x81 ∷ 0 ∷ 0x80 ∷ 0x80 ∷ 0x80 ∷ 0x80 ∷ 0x80 ∷ 0x80 ∷ [];
      rows = 32 ∷ 58 ∷ 0 ∷ 0 ∷ 2 ∷ 1 ∷ 0 ∷ 0 ∷ 0 ∷ 0 ∷ 0 ∷ 0 ∷ 40 ∷ 51 ∷ [];
    }
    -- three words, no constant: the second place is behind the constants' count
    ∷ record { behind = 0 ∷ 0x80 ∷ 0x80 ∷ 0x80 ∷ 0 ∷ 0 ∷ 2 ∷ 0x83 ∷ 1 ∷ 0 ∷ 0 ∷ 0 ∷ 2 ∷ 0 ∷ 0 ∷ 0 ∷ 3 ∷ 0 ∷ 0 ∷ 0 ∷ 0x80 ∷ 0x80 ∷ 0x80 ∷ 0x80 ∷ 0x80 ∷ 0x80 ∷ 0x80 ∷ []; rows = 32 ∷ 58 ∷ 0 ∷ 0 ∷ 3 ∷ 0 ∷ 0 ∷ 0 ∷ 0 ∷ 0 ∷ 0 ∷ 0 ∷ 39 ∷ 52 ∷ [] }
    -- no word, one constant
    ∷ record { behind = 0 ∷ 0x80 ∷ 0x80 ∷ 0x80 ∷ 0 ∷ 0 ∷ 2 ∷ 0x80 ∷ 0x81 ∷ 4 ∷ 0x84 ∷ 0x61 ∷ 0x62 ∷ 0x63 ∷ 0x80 ∷ 0x80 ∷ 0x80 ∷ 0x80 ∷ 0x80 ∷ 0x80 ∷ []; rows = 32 ∷ 51 ∷ 0 ∷ 0 ∷ 0 ∷ 1 ∷ 0 ∷ 0 ∷ 0 ∷ 0 ∷ 0 ∷ 0 ∷ 39 ∷ 40 ∷ [] }
    -- functions in functions: one with a word, one without anything in it, one with a constant
    ∷ record {
      behind = 0 ∷ 0x80 ∷ 0x80 ∷ 0x80 ∷ 0 ∷ 0 ∷ 2 ∷ 0x80 ∷ 0x80 ∷ 0x80 ∷ 0x82 ∷ 0x80 ∷ 0x80 ∷ 0x80 ∷ 0 ∷ 0 ∷ 2 ∷ 0x81 ∷ 7 ∷ 0 ∷ 0 ∷ 0 ∷ 0x80 ∷ 0x80 ∷ 0x81 ∷ 0x80 ∷ 0x80 ∷ 0x80 ∷ 0 ∷ 0 ∷ 2 ∷ 0x80 ∷ 0x80 ∷ 0x80 ∷ 0x80 ∷ 0x80 ∷ 0x80 ∷ 0x80 ∷ 0x80 ∷ 0x80 ∷ 0x80 ∷ 0x80 ∷ 0x80 ∷ 0x80 ∷ 0x80 ∷ 0x80 ∷ 0 ∷ 0 ∷ 2 ∷ 0x80 ∷ 0x81 ∷ 0 ∷ 0x80 ∷ 0x80 ∷ 0x80 ∷ 0x80 ∷ 0x80 ∷ 0x80 ∷ 0x80 ∷ 0x80 ∷ 0x80 ∷ 0x80 ∷ [];
      rows =
          (32 ∷ 93 ∷ 0 ∷ 0 ∷ 0 ∷ 0 ∷ 0 ∷ 2 ∷ 0 ∷ 0 ∷ 0 ∷ 0 ∷ 39 ∷ 40 ∷ [])
          ++ (42 ∷ 74 ∷ 1 ∷ 0 ∷ 1 ∷ 0 ∷ 0 ∷ 1 ∷ 0 ∷ 0 ∷ 0 ∷ 0 ∷ 49 ∷ 54 ∷ [])
          ++ (56 ∷ 70 ∷ 2 ∷ 1 ∷ 0 ∷ 0 ∷ 0 ∷ 0 ∷ 0 ∷ 0 ∷ 0 ∷ 0 ∷ 63 ∷ 64 ∷ [])
          ++ (74 ∷ 89 ∷ 1 ∷ 0 ∷ 0 ∷ 1 ∷ 0 ∷ 0 ∷ 0 ∷ 0 ∷ 0 ∷ 0 ∷ 81 ∷ 82 ∷ []);
    }
    ∷ []

places_hold : map (λ (c : Case). index_written (replicate (length c.rows) 77) (chunk c.behind)) cases ≡ map (λ (c : Case). c.rows) cases
unfolding cases read body function
places_hold = refl

-- ## Lent memory: how many numbers are lent, the answer, and what then stands there
abbrev smallest : Outcome
smallest = chunk (0 ∷ 0x80 ∷ 0x80 ∷ 0x80 ∷ 0 ∷ 0 ∷ 2 ∷ replicate 8 0x80)

abbrev row : List ℕ
row = 32 ∷ 46 ∷ replicate 10 0 ++ (39 ∷ 40 ∷ [])

spaces : List (ℕ × (Result ℕ Refusal) × List ℕ)
spaces = (13, Err LentSpace, replicate 13 77) ∷ (14, Ok 1, row) ∷ (15, Ok 1, row ++ (77 ∷ [])) ∷ []

lent_holds : map (λ c. (c.0, shown_index c.0 smallest, index_written (replicate c.0 77) smallest)) spaces ≡ spaces
unfolding spaces read body function
lent_holds = refl
