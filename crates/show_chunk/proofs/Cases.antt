-- The fields of a function and the summary of a chunk (01 'Calls'), from the bytes of a chunk whose function 4 has numbers that all differ (crates/format/proofs/Distinct.antt); antt computes all.
--     fields_hold      function 4; main; one that takes over main's source; one that is not there
--     summary_holds    header fields, both warnings, number of functions, place and length of the trailing bytes, number of padded numbers
--     padded_holds     number of padded numbers, of main and of a function in it
--     trailing_holds   the trailing bytes; of a chunk that is refused none
-- Told apart: any two fields exchanged, nested functions that show main's fields, an inherited source shown as absent or at another place, the warnings in another order, function numbers from 1.
-- Assumes nothing.
use Rattle.std.specs.Prelude.{Some, Result, Ok, Err}
use Rattle.format.specs.declared.refusal.Refusal.{Refusal}
use Rattle.show_chunk.specs.declared.fields.FunctionFields.{FunctionFields}
use Rattle.show_chunk.specs.declared.summary.ChunkSummary.{ChunkSummary}
use mathlib.Core.Path.{◌≡◌, refl}
use mathlib.Core.List.{List, [], ◌∷◌, ◌++◌, map}
use Prim.Native.Nat.{ℕ}
use lib.IntN.{pos}
use lib.ListN.{replicate, take}
use Rattle.format.specs.declared.refusal.Refusal.TheVariants.{NoFunction, Truncated}
use Rattle.format.specs.declared.header.Warning.TheVariants.{NonStandardFormat, TrailingBytes}
use Rattle.format.specs.Form.{Bytes}
use Rattle.format.specs.Copy.{header_bytes}
use Rattle.format.specs.Limits.{ceilings}
use Rattle.format.specs.ReadChunk.{body, function, Outcome, read}
use Rattle.format.proofs.Distinct.{distinct}
use Rattle.format_spelling.specs.ReadSpelling.{spelling}
use Rattle.format_spelling.specs.ReadSpelling as count
use Rattle.show_row.specs.Asked.{function_of}
use Rattle.show_chunk.specs.Fields.{shown_fields}
use Rattle.show_chunk.specs.Summaries.{shown_summary, trailing_of}

abbrev chunk : Outcome
chunk = read ceilings distinct

-- ## Fields
-- a function without entries, but for so many functions in it; main's source, at 33
abbrev plain : ℕ → ℕ → ℕ → ℕ → Result FunctionFields Refusal
plain depth parent vararg protos = Ok (record {
  depth = depth;
  parent = parent;
  source_name = Some (record { place = 33; len = 1 });
  line_defined = 0;
  last_line_defined = 0;
  numparams = 0;
  is_vararg = vararg;
  maxstacksize = 2;
  counts = record { instructions = 0; constants = 0; upvalues = 0; protos = protos; line_info = 0; abs_line_info = 0; loc_vars = 0; upvalue_names = 0 };
})

-- a function's number, and its fields
cases : List (ℕ × (Result FunctionFields Refusal))
cases = (
  4,
  Ok (record {
    depth = 2;
    parent = 3;
    source_name = Some (record { place = 82; len = 12 });
    line_defined = 13;
    last_line_defined = 14;
    numparams = 15;
    is_vararg = 16;
    maxstacksize = 17;
    counts = record { instructions = 5; constants = 7; upvalues = 6; protos = 4; line_info = 8; abs_line_info = 9; loc_vars = 10; upvalue_names = 11 };
  }),
)
    ∷ (0, plain 0 0 1 2)
    ∷ (1, plain 1 0 0 1)
    ∷ (2, plain 2 1 0 0)
    ∷ (9, Err NoFunction)
    ∷ []

fields_hold : map (λ c. shown_fields (function_of c.0 chunk)) cases ≡ map (λ c. c.1) cases
unfolding cases distinct read body function
fields_hold = refl

-- ## The chunk as a whole
summary_holds : shown_summary (spelling ceilings distinct) chunk ≡ Ok (record {
  summary = record {
    header = record { version = 0x54; format = 3; instruction_size = 4; lua_integer_size = 8; sizeof_sizet = 8; lua_number_size = 8; luac_int = pos 0x5678; luac_num = 0x4077280000000000 };
    warnings = record { first = Some (NonStandardFormat 5); second = Some (TrailingBytes 308) };
    functions = 9;
    trailing_at = 308;
    trailing_len = 3;
  };
  padded_numbers = 0;
})
unfolding distinct read body function spelling count.body count.function
summary_holds = refl

-- one function in main; of the 22 numbers the size of main's source, its last line, and the nested function's first line (by two zero groups) and count of names are padded
abbrev padded : Bytes
padded =
    header_bytes 0 ++ (0 ∷ 0 ∷ 0x80 ∷ 0x80 ∷ 0 ∷ 0x85 ∷ 0 ∷ 0 ∷ 2 ∷ 0x80 ∷ 0x80 ∷ 0x80 ∷ 0x81 ∷ [])
    ++ (0x80 ∷ 0 ∷ 0 ∷ 0x83 ∷ 0x80 ∷ 0 ∷ 0 ∷ 2 ∷ replicate 7 0x80) ++ (0 ∷ 0x80 ∷ replicate 4 0x80)

abbrev padded_shown : Result ChunkSummary Refusal → ℕ
padded_shown (Ok y) = y.padded_numbers
padded_shown (Err q) = 99

padded_holds : padded_shown (shown_summary (spelling ceilings padded) (read ceilings padded)) ≡ 4
unfolding read body function spelling count.body count.function
padded_holds = refl

refused_holds : shown_summary (spelling ceilings (take 307 distinct)) (read ceilings (take 307 distinct)) ≡ Err (Truncated 307)
unfolding distinct read body function
refused_holds = refl

trailing_holds : trailing_of chunk ∷ trailing_of (read ceilings (take 307 distinct)) ∷ [] ≡ (1 ∷ 2 ∷ 3 ∷ []) ∷ [] ∷ []
unfolding distinct read body function
trailing_holds = refl
