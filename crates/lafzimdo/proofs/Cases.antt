-- The numbers of answers for C, as include/lafzimdo.h lists them for each array: values in which all numbers differ, and one theorem over each list, which antt computes.
--     summary_holds    version, format, instruction size, integer size, size_t size, number size, the test number's bits; functions; trailing place and length; code and place of both warnings; padded numbers
--     summary_read, strict_read_lem    of a chunk's bytes, by the ordinary and by the stricter reading
--     warnings_hold    1 is L54-HEADER-003, 2 L54-CHUNK-001; without a warning both numbers are 0
--     fields_hold      function 4 of the chunk of crates/format/proofs/Distinct.antt: depth, parent; source; lines; three bytes; eight counts; a source that is absent
--     constants_hold   the tag, value or place, length
--     entries_hold     word, upvalue, delta, anchor, local, upvalue name, line, deltas read
--     verdicts_hold    0 valid for analysis, 1 invalid, 2 incomplete; and the numbers of index, copy and findings
--     refused_hold     a refusal is handed on
-- Told apart: two numbers of an array exchanged, two codes or verdicts exchanged, a sign left out.
-- Assumes nothing.
use Rattle.std.specs.Prelude.{Option, Some, None, Ok, Err}
use Rattle.format.specs.declared.header.Warning.{Warning}
use mathlib.Core.Path.{◌≡◌, refl}
use mathlib.Core.Bool.{true, false}
use mathlib.Core.List.{List, [], ◌∷◌, map}
use Prim.Native.Nat.{ℕ, ◌-◌, ◌^◌}
use lib.IntN.{pos, negsuc}
use Rattle.format.specs.declared.refusal.Refusal.TheVariants.{NoEntry, LineTooLarge, AnchorOrder, PcOrder, Format}
use Rattle.format.specs.declared.header.Warning.TheVariants.{NonStandardFormat, TrailingBytes}
use Rattle.format.specs.Limits.{ceilings}
use Rattle.format.specs.ReadChunk.{body, function, read}
use Rattle.format_strict.specs.ReadStrict.{strict_body, strict_function, strict_read}
use Rattle.format.proofs.Distinct.{distinct}
use Rattle.format_spelling.specs.ReadSpelling.{spelling}
use Rattle.format_spelling.specs.ReadSpelling as spelt
use Rattle.read_entry.specs.declared.constant.ConstantValue.{ConstantValue}
use Rattle.read_entry.specs.declared.constant.ConstantValue.TheVariants as value
use Rattle.show_row.specs.Asked.{function_of}
use Rattle.validate_rules.specs.declared.finding.Verdict.TheVariants.{ValidForAnalysis, Invalid, Incomplete}
use Rattle.show_chunk.specs.Fields.{shown_fields}
use Rattle.show_chunk.specs.Summaries.{shown_summary}
use Rattle.c_boundary.specs.Status.{Answer, done, refuses}
use Rattle.c_numbers.specs.Numbers.{warning_code, warning_place}
use Rattle.lafzimdo.specs.Answers.{
  ofSummary,
  of_fields,
  ofLine,
  ofLines,
  ofWord,
  ofConstant,
  ofUpvalue,
  ofDelta,
  ofAnchor,
  of_local,
  ofName,
  ofIndex,
  ofCopy,
  ofVerdict,
  ofCount,
}

-- ## The summary
summary_holds : ofSummary (Ok (record {
  summary = record {
    header = record { version = 1; format = 2; instruction_size = 3; lua_integer_size = 4; sizeof_sizet = 5; lua_number_size = 6; luac_int = pos 99; luac_num = 7 };
    warnings = record { first = Some (TrailingBytes 11); second = Some (NonStandardFormat 12) };
    functions = 8;
    trailing_at = 9;
    trailing_len = 10;
  };
  padded_numbers = 13;
})) ≡ done (1 ∷ 2 ∷ 3 ∷ 4 ∷ 5 ∷ 6 ∷ 7 ∷ 8 ∷ 9 ∷ 10 ∷ 2 ∷ 11 ∷ 1 ∷ 12 ∷ 13 ∷ [])
summary_holds = refl

-- from the bytes of a chunk
summary_read : ofSummary (shown_summary (spelling ceilings distinct) (read ceilings distinct)) ≡ done (0x54 ∷ 3 ∷ 4 ∷ 8 ∷ 8 ∷ 8 ∷ 0x4077280000000000 ∷ 9 ∷ 308 ∷ 3 ∷ 1 ∷ 5 ∷ 2 ∷ 308 ∷ 0 ∷ [])
unfolding distinct read body function spelling spelt.body spelt.function
summary_read = refl

-- the same bytes in the stricter reading: their format byte is 3, so 31, at its place
strict_read_lem : ofSummary (shown_summary (spelling ceilings distinct) (strict_read ceilings distinct)) ≡ refuses (Format 5)
unfolding distinct strict_read strict_body strict_function spelling spelt.body spelt.function
strict_read_lem = refl

-- a warning, its code and its place
warnings : List ((Option Warning) × (ℕ × ℕ))
warnings = (None, (0, 0)) ∷ (Some (NonStandardFormat 5), (1, 5)) ∷ (Some (TrailingBytes 46), (2, 46)) ∷ []

abbrev numbered : Option Warning → ℕ × ℕ
numbered w = (warning_code w, warning_place w)

warnings_hold : map (λ c. numbered c.0) warnings ≡ map (λ c. c.1) warnings
unfolding warnings
warnings_hold = refl

-- ## A function's fields
fields_hold : of_fields (shown_fields (function_of 4 (read ceilings distinct))) ≡ done (2 ∷ 3 ∷ 1 ∷ 82 ∷ 12 ∷ 13 ∷ 14 ∷ 15 ∷ 16 ∷ 17 ∷ 5 ∷ 7 ∷ 6 ∷ 4 ∷ 8 ∷ 9 ∷ 10 ∷ 11 ∷ [])
unfolding distinct read body function
fields_hold = refl

-- ## Entries
-- nil, false, true, 5, −5, a float's bits, a short string, a long one
constants : List (ConstantValue × List ℕ)
constants =
    (value.Nil, 0 ∷ 0 ∷ 0 ∷ [])
    ∷ (value.Boolean false, 1 ∷ 0 ∷ 0 ∷ [])
    ∷ (value.Boolean true, 17 ∷ 0 ∷ 0 ∷ [])
    ∷ (value.Integer (pos 5), 3 ∷ 5 ∷ 0 ∷ [])
    ∷ (value.Integer (negsuc 4), 3 ∷ (2 ^ 64 - 5) ∷ 0 ∷ [])
    ∷ (value.Float (2 ^ 63), 19 ∷ 2 ^ 63 ∷ 0 ∷ [])
    ∷ (value.ShortString (record { place = 144; len = 2 }), 4 ∷ 144 ∷ 2 ∷ [])
    ∷ (value.LongString (record { place = 148; len = 3 }), 20 ∷ 148 ∷ 3 ∷ [])
    ∷ []

constants_hold : map (λ c. ofConstant (Ok c.0)) constants ≡ map (λ c. done c.1) constants
unfolding constants
constants_hold = refl

entries : List (Answer × List ℕ)
entries =
    (ofWord (Ok 0x04030201), 0x04030201 ∷ [])
    ∷ (ofUpvalue (Ok (record { instack = 1; idx = 2; kind = 3 })), 1 ∷ 2 ∷ 3 ∷ [])
    ∷ (ofDelta (Ok (negsuc 127)), (2 ^ 64 - 128) ∷ [])
    ∷ (ofAnchor (Ok (record { pc = 3; line = 4 })), 3 ∷ 4 ∷ [])
    ∷ (of_local (Ok (record { name_len = 7; startpc = 5; endpc = 6 })), 7 ∷ 5 ∷ 6 ∷ [])
    ∷ (ofName (Ok (Some (record { place = 289; len = 4 }))), 1 ∷ 289 ∷ 4 ∷ [])
    ∷ (ofName (Ok None), 0 ∷ 0 ∷ 0 ∷ [])
    ∷ (ofLine (Ok 77), 77 ∷ [])
    ∷ (ofLines (Ok 5), 5 ∷ [])
    ∷ []

entries_hold : map (λ c. c.0) entries ≡ map (λ c. done c.1) entries
unfolding entries
entries_hold = refl

-- ## Whole chunks
verdicts_hold : map (λ v. ofVerdict (Ok v)) (ValidForAnalysis ∷ Invalid ∷ Incomplete ∷ []) ≡ done (0 ∷ []) ∷ done (1 ∷ []) ∷ done (2 ∷ []) ∷ []
verdicts_hold = refl

counts_hold : ofIndex (Ok 9) ∷ ofCopy (Ok 311) ∷ ofCount (Ok 7) ∷ [] ≡ done (9 ∷ []) ∷ done (311 ∷ []) ∷ done (7 ∷ []) ∷ []
counts_hold = refl

refused_hold : ofLine (Err LineTooLarge) ∷ ofWord (Err NoEntry) ∷ ofLines (Err AnchorOrder) ∷ ofLines (Err PcOrder) ∷ [] ≡ refuses LineTooLarge ∷ refuses NoEntry ∷ refuses AnchorOrder ∷ refuses PcOrder ∷ []
refused_hold = refl
