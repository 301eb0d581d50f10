-- A chunk whose function 4 has numbers that all differ, so that no two of its fields, list counts or entries' parts can be exchanged unseen: what crates above hold their orders against.
--     distinct         the chunk, of 311 bytes: main, in it 1 with 2 in it, and 3 with 4 in it, which has four small ones, 5 to 8
--     fourth           function 4, as 01 and the Rust read it
--     fourth_read      it is what the reader gives
--     header_read      and the header's fields
--     whole-read       and of the chunk the warnings, the number of functions and the trailing bytes
-- Assumes nothing.
use mathlib.Core.Path.{◌≡◌, refl}
use mathlib.Core.Bool.{true, false}
use mathlib.Core.List.{List, [], ◌∷◌, ◌++◌, map}
use mathlib.Core.Option.{Option, none, some}
use Prim.Native.Nat.{ℕ}
use lib.IntN.{pos}
use lib.ListN.{length, replicate, take, drop}
use Rattle.format.specs.declared.header.Header as declared
use Rattle.format.specs.declared.header.Warning.{Warning}
use Rattle.format.specs.declared.header.Warning.TheVariants.{NonStandardFormat, TrailingBytes}
use Rattle.format.specs.declared.entry.AbsLineInfo.{AbsLineInfo}
use Rattle.format.specs.declared.entry.UpvalueDesc.{UpvalueDesc}
use Rattle.format.specs.Form.{Bytes}
use Rattle.format.specs.Limits.{ceilings}
use Rattle.format.specs.Reading.{nil, boolean, integer, float, short_string, long_string, LocalVar, Prototype}
use Rattle.format.specs.ReadChunk.{body, function, Outcome, shown, refusal, read}

-- ## The bytes
-- format 3
abbrev pub header : Bytes
header =
    0x1b ∷ 0x4c ∷ 0x75 ∷ 0x61 ∷ 0x54 ∷ 3 ∷ 0x19 ∷ 0x93 ∷ 0x0d ∷ 0x0a ∷ 0x1a ∷ 0x0a ∷ 4 ∷ 8 ∷ 8
    ∷ 0x78 ∷ 0x56 ∷ 0 ∷ 0 ∷ 0 ∷ 0 ∷ 0 ∷ 0 ∷ 0 ∷ 0 ∷ 0 ∷ 0 ∷ 0 ∷ 0x28 ∷ 0x77 ∷ 0x40 ∷ []

-- a function with nothing in it
abbrev pub little : Bytes
little = 0x80 ∷ 0x80 ∷ 0x80 ∷ 0 ∷ 0 ∷ 2 ∷ replicate 8 0x80

-- a function with nothing in it but one function
abbrev pub around : Bytes → Bytes
around inner = (0x80 ∷ 0x80 ∷ 0x80 ∷ 0 ∷ 0 ∷ 2 ∷ 0x80 ∷ 0x80 ∷ 0x80 ∷ 0x81 ∷ inner) ++ replicate 4 0x80

-- from place 81 on
abbrev pub large : Bytes
large =
    -- source, lines, three bytes
    (0x8d ∷ replicate 12 0x61) ++ (0x8d ∷ 0x8e ∷ 15 ∷ 16 ∷ 17
    -- 5 words; 7 constants, one of each tag; 6 upvalues; 4 functions
    ∷ 0x85 ∷ 1 ∷ 2 ∷ 3 ∷ 4 ∷ replicate 16 0)
    ++ (0x87 ∷ 0 ∷ 1 ∷ 17 ∷ 3 ∷ 5 ∷ 6 ∷ replicate 6 0) ++ (19 ∷ 7 ∷ 8 ∷ replicate 6 0) ++ (4 ∷ 0x83 ∷ 0x70 ∷ 0x71 ∷ 20 ∷ 0x84 ∷ 0x72 ∷ 0x73 ∷ 0x74 ∷ [])
    ++ (0x86 ∷ 1 ∷ 2 ∷ 3 ∷ replicate 15 0)
    ++ (0x84 ∷ little ++ little ++ little ++ little)
    -- 8 deltas; 9 anchors; 10 locals, of which the first has a name; 11 names, of which the first is there
    ++ (0x88 ∷ 0xff ∷ replicate 7 0)
    ++ (0x89 ∷ 0x83 ∷ 0x84 ∷ replicate 16 0x80)
    ++ (0x8a ∷ 0x82 ∷ 0x76 ∷ 0x85 ∷ 0x86 ∷ replicate 27 0x80)
    ++ (0x8b ∷ 0x82 ∷ 0x77 ∷ replicate 10 0x80)

-- main has a source, which the functions without one take over; three trailing bytes
unfoldable pub distinct : Bytes
distinct =
    header ++ (7 ∷ 0x82 ∷ 0x6d ∷ 0x80 ∷ 0x80 ∷ 0 ∷ 1 ∷ 2 ∷ 0x80 ∷ 0x80 ∷ 0x80 ∷ 0x82 ∷ around little)
    ++ around large ++ (0x80 ∷ 0x80 ∷ 0x80 ∷ 0x80 ∷ 1 ∷ 2 ∷ 3 ∷ [])

-- ## Function 4
-- a local without a name, whose size stands before this place
abbrev pub unnamed : ℕ → LocalVar
unnamed place = record { name = record { place = place; bytes = 0x3f ∷ [] }; startpc = 0; endpc = 0 }

abbrev pub no_upvalue : UpvalueDesc
no_upvalue = record { instack = 0; idx = 0; kind = 0 }

abbrev pub no_anchor : AbsLineInfo
no_anchor = record { pc = 0; line = 0 }

unfoldable pub fourth : Prototype
fourth = record {
  depth = 2;
  parent = 3;
  start = 81;
  end = 300;
  source_name = some (record { place = 82; bytes = replicate 12 0x61 });
  line_defined = 13;
  last_line_defined = 14;
  numparams = 15;
  is_vararg = 16;
  maxstacksize = 17;
  instructions = 0x04030201 ∷ replicate 4 0;
  constants =
      nil ∷ boolean false ∷ boolean true ∷ integer 0x0605 ∷ float 0x0807
      ∷ short_string (record { place = 144; bytes = 0x70 ∷ 0x71 ∷ [] })
      ∷ long_string (record { place = 148; bytes = 0x72 ∷ 0x73 ∷ 0x74 ∷ [] })
      ∷ [];
  upvalues = record { instack = 1; idx = 2; kind = 3 } ∷ replicate 5 no_upvalue;
  protos = 4;
  line_info_lem = 0xff ∷ replicate 7 0;
  abs_line_info = record { pc = 3; line = 4 } ∷ replicate 8 no_anchor;
  loc_vars = record { name = record { place = 257; bytes = 0x76 ∷ [] }; startpc = 5; endpc = 6 } ∷ map unnamed (261 ∷ 264 ∷ 267 ∷ 270 ∷ 273 ∷ 276 ∷ 279 ∷ 282 ∷ 285 ∷ []);
  upvalue_names_lem = some (record { place = 289; bytes = 0x77 ∷ [] }) ∷ replicate 10 none;
  places = record { instructions = 100; constants = 121; upvalues = 152; protos = 171; line_info_lem = 228; abs_line_info = 237; loc_vars = 256; upvalue_names_lem = 288 };
}

-- ## What is read
abbrev pub functions_of : Outcome → List Prototype
functions_of (shown r) = r.functions
functions_of (refusal q) = []

pub fourth_read : take 1 (drop 4 (functions_of (read ceilings distinct))) ≡ fourth ∷ []
unfolding distinct fourth read body function
fourth_read = refl

-- `sizeof_sizet` is not in the file; 370.5 by its bits
abbrev pub headers_of : Outcome → List declared.Header
headers_of (shown r) = r.header ∷ []
headers_of (refusal q) = []

pub header_read : headers_of (read ceilings distinct) ≡ record {
  version = 0x54;
  format = 3;
  instruction_size = 4;
  lua_integer_size = 8;
  sizeof_sizet = 8;
  lua_number_size = 8;
  luac_int = pos 0x5678;
  luac_num = 0x4077280000000000;
} ∷ []
unfolding distinct read body function
header_read = refl

-- warnings; how many functions; where the trailing bytes begin, and they
abbrev pub whole_of : Outcome → List Warning × ℕ × ℕ × Bytes
whole_of (shown r) = (r.warnings, length r.functions, r.trailing_at, r.trailing)
whole_of (refusal q) = ([], 0, 0, [])

pub whole-read : whole_of (read ceilings distinct) ≡ (NonStandardFormat 5 ∷ TrailingBytes 308 ∷ [], 9, 308, 1 ∷ 2 ∷ 3 ∷ [])
unfolding distinct read body function
whole-read = refl
