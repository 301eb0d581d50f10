-- Two chunks for worked cases of Lua's own loader and dumper, `proofs/LundumpCase.antt` and `proofs/LdumpCase.antt`.
--     small            01's 46 bytes
--     full             208 bytes: each entry at least once, every tag, functions two levels deep, a source that is inherited, one of its own and an empty one,
--                      a local name and an upvalue name that are absent. No two numbers of main are equal that could be taken for each other
--     full_functions_lem   what its functions are
-- Lua 5.4.4 loads `full`, and dumps it as these 208 bytes again.
-- Assumes nothing.
use mathlib.Core.Bool.{true, false}
use mathlib.Core.List.{List, [], ◌∷◌, ◌++◌}
use mathlib.Core.Option.{none, some}
use lib.ListN.{replicate}
use Rattle.format.specs.Form.{Bytes}
use Rattle.format.specs.GrammarHeader.{header_of}
use Rattle.format.specs.Reading.{nil, boolean, integer, float, short_string, long_string, Prototype}
use Rattle.format.specs.GrammarChunk.{Loaded}

-- 31 bytes
abbrev pub header : Bytes
header =
    0x1b ∷ 0x4c ∷ 0x75 ∷ 0x61 ∷ 0x54 ∷ 0 ∷ 0x19 ∷ 0x93 ∷ 0x0d ∷ 0x0a ∷ 0x1a ∷ 0x0a ∷ 4 ∷ 8 ∷ 8
    ∷ 0x78 ∷ 0x56 ∷ 0 ∷ 0 ∷ 0 ∷ 0 ∷ 0 ∷ 0 ∷ 0 ∷ 0 ∷ 0 ∷ 0 ∷ 0 ∷ 0x28 ∷ 0x77 ∷ 0x40 ∷ []

abbrev pub small : Bytes
small = header ++ 0 ∷ 0x80 ∷ 0x80 ∷ 0x80 ∷ 0 ∷ 0 ∷ 2 ∷ replicate 8 0x80

abbrev pub grandchild : Bytes
grandchild = 0x82 ∷ 0x67 ∷ 0x8c ∷ 0x8d ∷ 0 ∷ 0 ∷ 2 ∷ replicate 8 0x80

-- one word, two upvalues, one nested function; three deltas, one anchor, two locals, two upvalue names
abbrev pub child : Bytes
child =
    0x80 ∷ 0x8b ∷ 0x8f ∷ 1 ∷ 0 ∷ 3 ∷ 0x81 ∷ 4 ∷ 3 ∷ 2 ∷ 1 ∷ 0x80 ∷ 0x82 ∷ 0 ∷ 0 ∷ 0 ∷ 1 ∷ 5 ∷ 1 ∷ 0x81 ∷ grandchild
    ++ 0x83 ∷ 0x01 ∷ 0xff ∷ 0x80 ∷ 0x81 ∷ 0x82 ∷ 0x8e ∷ 0x82 ∷ 0x80 ∷ 0x80 ∷ 0x81 ∷ 0x82 ∷ 0x69 ∷ 0x81 ∷ 0x82 ∷ 0x82 ∷ 0x80 ∷ 0x82 ∷ 0x75 ∷ []

abbrev pub second : Bytes
second = 0x81 ∷ 0x90 ∷ 0x91 ∷ 0 ∷ 0 ∷ 4 ∷ replicate 8 0x80

-- two words; the constants nil, false, true, an integer, a float, a string of one byte and one of 41; an upvalue; two nested functions; two deltas, an anchor, a local, an upvalue name
abbrev pub full : Bytes
full =
    header ++ 1 ∷ 0x83 ∷ 0x40 ∷ 0x6d ∷ 0x8a ∷ 0x9e ∷ 3 ∷ 1 ∷ 7 ∷ 0x82 ∷ 0x38 ∷ 0xff ∷ 0xff ∷ 0x7f ∷ 0x46 ∷ 0 ∷ 0 ∷ 1
    ∷ 0x87 ∷ 0 ∷ 1 ∷ 17 ∷ 3 ∷ 0xfe ∷ replicate 7 0xff ++ 19 ∷ 0 ∷ 0 ∷ 0 ∷ 0 ∷ 0 ∷ 0 ∷ 4 ∷ 0x40 ∷ 4 ∷ 0x82 ∷ 0x78 ∷ 20 ∷ 0xaa ∷ replicate 41 0x61
    ++ 0x81 ∷ 1 ∷ 0 ∷ 2 ∷ 0x82 ∷ child ++ second
    ++ 0x82 ∷ 0x05 ∷ 0xfb ∷ 0x81 ∷ 0x81 ∷ 0x8b ∷ 0x81 ∷ 0x83 ∷ 0x6c ∷ 0x6f ∷ 0x80 ∷ 0x82 ∷ 0x81 ∷ 0x85 ∷ 0x5f ∷ 0x45 ∷ 0x4e ∷ 0x56 ∷ []

abbrev pub full_functions_lem : List Prototype
full_functions_lem =
    record {
      depth = 0;
      parent = 0;
      start = 32;
      end = 208;
      source_name = some (record { place = 33; bytes = 0x40 ∷ 0x6d ∷ [] });
      line_defined = 10;
      last_line_defined = 30;
      numparams = 3;
      is_vararg = 1;
      maxstacksize = 7;
      instructions = 0x7fffff38 ∷ 0x01000046 ∷ [];
      constants = nil ∷ boolean false ∷ boolean true ∷ integer 0xfffffffffffffffe ∷ float 0x4004000000000000 ∷ short_string (record { place = 73; bytes = 0x78 ∷ [] }) ∷ long_string (record { place = 76; bytes = replicate 41 0x61 }) ∷ [];
      upvalues = record { instack = 1; idx = 0; kind = 2 } ∷ [];
      protos = 2;
      line_info_lem = 0x05 ∷ 0xfb ∷ [];
      abs_line_info = record { pc = 1; line = 11 } ∷ [];
      loc_vars = record { name = record { place = 198; bytes = 0x6c ∷ 0x6f ∷ [] }; startpc = 0; endpc = 2 } ∷ [];
      upvalue_names_lem = some (record { place = 204; bytes = 0x5f ∷ 0x45 ∷ 0x4e ∷ 0x56 ∷ [] }) ∷ [];
      places = record { instructions = 41; constants = 50; upvalues = 118; protos = 122; line_info_lem = 191; abs_line_info = 194; loc_vars = 197; upvalue_names_lem = 203 };
    }
    ∷ record {
      depth = 1;
      parent = 0;
      start = 122;
      end = 176;
      source_name = some (record { place = 33; bytes = 0x40 ∷ 0x6d ∷ [] });
      line_defined = 11;
      last_line_defined = 15;
      numparams = 1;
      is_vararg = 0;
      maxstacksize = 3;
      instructions = 0x01020304 ∷ [];
      constants = [];
      upvalues = record { instack = 0; idx = 0; kind = 0 } ∷ record { instack = 1; idx = 5; kind = 1 } ∷ [];
      protos = 1;
      line_info_lem = 0x01 ∷ 0xff ∷ 0x80 ∷ [];
      abs_line_info = record { pc = 2; line = 14 } ∷ [];
      loc_vars = record { name = record { place = 166; bytes = 0x3f ∷ [] }; startpc = 0; endpc = 1 } ∷ record { name = record { place = 169; bytes = 0x69 ∷ [] }; startpc = 1; endpc = 2 } ∷ [];
      upvalue_names_lem = none ∷ some (record { place = 175; bytes = 0x75 ∷ [] }) ∷ [];
      places = record { instructions = 129; constants = 134; upvalues = 135; protos = 142; line_info_lem = 158; abs_line_info = 162; loc_vars = 165; upvalue_names_lem = 173 };
    }
    ∷ record {
      depth = 2;
      parent = 1;
      start = 142;
      end = 157;
      source_name = some (record { place = 143; bytes = 0x67 ∷ [] });
      line_defined = 12;
      last_line_defined = 13;
      numparams = 0;
      is_vararg = 0;
      maxstacksize = 2;
      instructions = [];
      constants = [];
      upvalues = [];
      protos = 0;
      line_info_lem = [];
      abs_line_info = [];
      loc_vars = [];
      upvalue_names_lem = [];
      places = record { instructions = 150; constants = 151; upvalues = 152; protos = 153; line_info_lem = 154; abs_line_info = 155; loc_vars = 156; upvalue_names_lem = 157 };
    }
    ∷ record {
      depth = 1;
      parent = 0;
      start = 176;
      end = 190;
      source_name = some (record { place = 177; bytes = [] });
      line_defined = 16;
      last_line_defined = 17;
      numparams = 0;
      is_vararg = 0;
      maxstacksize = 4;
      instructions = [];
      constants = [];
      upvalues = [];
      protos = 0;
      line_info_lem = [];
      abs_line_info = [];
      loc_vars = [];
      upvalue_names_lem = [];
      places = record { instructions = 183; constants = 184; upvalues = 185; protos = 186; line_info_lem = 187; abs_line_info = 188; loc_vars = 189; upvalue_names_lem = 190 };
    }
    ∷ []

-- the 46 bytes' one function
abbrev pub small-function : Prototype
small-function = record {
  depth = 0;
  parent = 0;
  start = 32;
  end = 46;
  source_name = none;
  line_defined = 0;
  last_line_defined = 0;
  numparams = 0;
  is_vararg = 0;
  maxstacksize = 2;
  instructions = [];
  constants = [];
  upvalues = [];
  protos = 0;
  line_info_lem = [];
  abs_line_info = [];
  loc_vars = [];
  upvalue_names_lem = [];
  places = record { instructions = 39; constants = 40; upvalues = 41; protos = 42; line_info_lem = 43; abs_line_info = 44; loc_vars = 45; upvalue_names_lem = 46 };
}

-- functions, behind a standard header
abbrev pub loaded : List Prototype → Loaded
loaded functions = record { headed = record { header = header_of 0; warnings = [] }; functions = functions }
