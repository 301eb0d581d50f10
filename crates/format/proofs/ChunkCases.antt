-- Worked cases of whole chunks: limits, inputs and results in a list, and one theorem over the list, which antt computes.
-- Assumes nothing.
use mathlib.Core.Path.{◌≡◌, refl}
use mathlib.Core.Bool.{Bool, true, false}
use mathlib.Core.List.{List, [], ◌∷◌, ◌++◌, map}
use mathlib.Core.Option.{Option, none, some}
use Prim.Native.Nat.{ℕ}
use lib.ListN.{length, replicate, set, take}
use Rattle.format.specs.declared.limits.ResourceLimits.{ResourceLimits}
use Rattle.format.specs.declared.refusal.Refusal.TheVariants.{
  Truncated,
  Overflow,
  Signature,
  Version,
  LuacData,
  InstructionSize,
  LuaIntegerSize,
  LuaNumberSize,
  LuacInt,
  LuacNum,
  ConstantTag,
  StringBytes,
  Instructions,
  TotalInstructions,
  Constants,
  Upvalues,
  Prototypes,
  NestingDepth,
  TotalPrototypes,
  InputBytes,
  LimitAboveCeiling,
}
use Rattle.format.specs.declared.header.Warning.{Warning}
use Rattle.format.specs.declared.header.Warning.TheVariants.{NonStandardFormat, TrailingBytes}
use Rattle.format.specs.Form.{Bytes}
use Rattle.format.specs.GrammarFields.{LuaString}
use Rattle.format.specs.GrammarHeader.{header_of}
use Rattle.format.specs.Limits.{DEEPEST, ceilings}
use Rattle.format.specs.Reading.{ConstantValue, integer, short_string, Places, Prototype, Reading}
use Rattle.format.specs.ReadChunk.{body, function, Outcome, shown, refusal, read}
use Rattle.format.specs.Copy.{list_bytes, behind_source, copy}
use Rattle.format.specs.Shortest.{shortest}

-- 31 bytes, with this format byte
header : ℕ → Bytes
header format =
    0x1b ∷ 0x4c ∷ 0x75 ∷ 0x61 ∷ 0x54 ∷ format ∷ 0x19 ∷ 0x93 ∷ 0x0d ∷ 0x0a ∷ 0x1a ∷ 0x0a ∷ 4 ∷ 8 ∷ 8
    ∷ 0x78 ∷ 0x56 ∷ 0 ∷ 0 ∷ 0 ∷ 0 ∷ 0 ∷ 0 ∷ 0 ∷ 0 ∷ 0 ∷ 0 ∷ 0 ∷ 0x28 ∷ 0x77 ∷ 0x40 ∷ []

-- ## 01's 46 bytes
small : Bytes
unfolding header
small = header 0 ++ 0 ∷ 0x80 ∷ 0x80 ∷ 0x80 ∷ 0 ∷ 0 ∷ 2 ∷ replicate 8 0x80

-- eight empty lists of which the first begins behind the count at `at`
empty : ℕ → ℕ → ℕ → ℕ → ℕ → ℕ → ℕ → ℕ → Places
empty a b c d e f g h = record { instructions = a; constants = b; upvalues = c; protos = d; line_info_lem = e; abs_line_info = f; loc_vars = g; upvalue_names_lem = h }

small-reading : Reading
unfolding empty
small-reading = record {
  header = header_of 0;
  warnings = [];
  functions = record {
    depth = 0;
    parent = 0;
    start = 32;
    end = 46;
    source_name = none;
    line_defined = 0;
    last_line_defined = 0;
    numparams = 0;
    is_vararg = 0;
    maxstacksize = 2;
    instructions = [];
    constants = [];
    upvalues = [];
    protos = 0;
    line_info_lem = [];
    abs_line_info = [];
    loc_vars = [];
    upvalue_names_lem = [];
    places = empty 39 40 41 42 43 44 45 46;
  } ∷ [];
  trailing_at = 46;
  trailing = [];
}

-- ## A line_info_lem size of 2^64 - 129, behind so many leading zeros that its deltas would begin at 52 and as many
deltas : ℕ → Bytes
unfolding header
deltas zeros = header 0 ++ 0 ∷ 0x80 ∷ 0x80 ∷ 0x80 ∷ 0 ∷ 0 ∷ 2 ∷ 0x80 ∷ 0x80 ∷ 0x80 ∷ 0x80 ∷ replicate zeros 0 ++ 0x01 ∷ replicate 7 0x7f ++ 0x7e ∷ 0xff ∷ []

-- ## Two levels deep: main's source `ab`, an inherited one, one of its own, an empty one; format 1 and a trailing byte
grandchild : Bytes
grandchild = 0x82 ∷ 0x67 ∷ 0x80 ∷ 0x80 ∷ 0 ∷ 0 ∷ 2 ∷ replicate 8 0x80

child : Bytes
unfolding grandchild
child =
    0x80 ∷ 0x82 ∷ 0x83 ∷ 0 ∷ 0 ∷ 2 ∷ 0x80 ∷ 0x80 ∷ 0x80 ∷ 0x81 ∷ grandchild
    ++ 0x82 ∷ 0x01 ∷ 0xff ∷ 0x81 ∷ 0x80 ∷ 0x85 ∷ 0x81 ∷ 0x80 ∷ 0x80 ∷ 0x81 ∷ 0x82 ∷ 0x80 ∷ 0x82 ∷ 0x75 ∷ []

second : Bytes
second = 0x81 ∷ 0x80 ∷ 0x80 ∷ 0 ∷ 0 ∷ 2 ∷ replicate 8 0x80

nested : Bytes
unfolding header child second grandchild
nested =
    header 1 ++ 7 ∷ 0x83 ∷ 0x61 ∷ 0x62 ∷ 0x81 ∷ 0x89 ∷ 0 ∷ 1 ∷ 2 ∷ 0x81 ∷ 0x38 ∷ 0xff ∷ 0xff ∷ 0x7f
    ∷ 0x82 ∷ 4 ∷ 0x82 ∷ 0x78 ∷ 3 ∷ replicate 8 0xff ++ 0x81 ∷ 1 ∷ 0 ∷ 0 ∷ 0x82 ∷ child ++ second ++ 0x80 ∷ 0x80 ∷ 0x80 ∷ 0x80 ∷ 9 ∷ []

ab : Option LuaString
ab = some (record { place = 33; bytes = 0x61 ∷ 0x62 ∷ [] })

nested_functions : List Prototype
unfolding ab empty
nested_functions =
    record {
      depth = 0;
      parent = 0;
      start = 32;
      end = 120;
      source_name = ab;
      line_defined = 1;
      last_line_defined = 9;
      numparams = 0;
      is_vararg = 1;
      maxstacksize = 2;
      instructions = 0x7fffff38 ∷ [];
      constants = short_string (record { place = 48; bytes = 0x78 ∷ [] }) ∷ integer 0xffffffffffffffff ∷ [];
      upvalues = record { instack = 1; idx = 0; kind = 0 } ∷ [];
      protos = 2;
      line_info_lem = [];
      abs_line_info = [];
      loc_vars = [];
      upvalue_names_lem = [];
      places = empty 41 46 59 63 117 118 119 120;
    }
    ∷ record {
      depth = 1;
      parent = 0;
      start = 63;
      end = 102;
      source_name = ab;
      line_defined = 2;
      last_line_defined = 3;
      numparams = 0;
      is_vararg = 0;
      maxstacksize = 2;
      instructions = [];
      constants = [];
      upvalues = [];
      protos = 1;
      line_info_lem = 0x01 ∷ 0xff ∷ [];
      abs_line_info = record { pc = 0; line = 5 } ∷ [];
      loc_vars = record { name = record { place = 96; bytes = 0x3f ∷ [] }; startpc = 0; endpc = 1 } ∷ [];
      upvalue_names_lem = none ∷ some (record { place = 101; bytes = 0x75 ∷ [] }) ∷ [];
      places = empty 70 71 72 73 89 92 95 99;
    }
    ∷ record {
      depth = 2;
      parent = 1;
      start = 73;
      end = 88;
      source_name = some (record { place = 74; bytes = 0x67 ∷ [] });
      line_defined = 0;
      last_line_defined = 0;
      numparams = 0;
      is_vararg = 0;
      maxstacksize = 2;
      instructions = [];
      constants = [];
      upvalues = [];
      protos = 0;
      line_info_lem = [];
      abs_line_info = [];
      loc_vars = [];
      upvalue_names_lem = [];
      places = empty 81 82 83 84 85 86 87 88;
    }
    ∷ record {
      depth = 1;
      parent = 0;
      start = 102;
      end = 116;
      source_name = some (record { place = 103; bytes = [] });
      line_defined = 0;
      last_line_defined = 0;
      numparams = 0;
      is_vararg = 0;
      maxstacksize = 2;
      instructions = [];
      constants = [];
      upvalues = [];
      protos = 0;
      line_info_lem = [];
      abs_line_info = [];
      loc_vars = [];
      upvalue_names_lem = [];
      places = empty 109 110 111 112 113 114 115 116;
    }
    ∷ []

-- with these warnings
warned-reading : List Warning → Reading
unfolding nested_functions ab empty
warned-reading warnings = record {
  header = header_of 1;
  warnings = warnings;
  functions = nested_functions;
  trailing_at = 120;
  trailing = 9 ∷ [];
}

nested_reading : Reading
unfolding warned-reading nested_functions ab empty
nested_reading = warned-reading (NonStandardFormat 5 ∷ TrailingBytes 120 ∷ [])

-- ## Main and two functions side by side in it, each with one word
sibling : Bytes
sibling = 0x80 ∷ 0x80 ∷ 0x80 ∷ 0 ∷ 0 ∷ 2 ∷ 0x81 ∷ 0 ∷ 0 ∷ 0 ∷ 0 ∷ replicate 7 0x80

siblings : Bytes
unfolding header sibling
siblings = header 0 ++ 0 ∷ 0x80 ∷ 0x80 ∷ 0x80 ∷ 0 ∷ 0 ∷ 2 ∷ 0x81 ∷ 0 ∷ 0 ∷ 0 ∷ 0 ∷ 0x80 ∷ 0x80 ∷ 0x82 ∷ sibling ++ sibling ++ 0x80 ∷ 0x80 ∷ 0x80 ∷ 0x80 ∷ []

-- ## A constant whose tag is none
tagged : Bytes
unfolding header
tagged = header 0 ++ 0 ∷ 0x80 ∷ 0x80 ∷ 0x80 ∷ 0 ∷ 0 ∷ 2 ∷ 0x80 ∷ 0x81 ∷ 2 ∷ []

-- ## The cases
record Case : Type 0 where
  limits : ResourceLimits
  input : Bytes
  result : Outcome

-- the ceilings with other limits of instructions, constants and upvalues in a function, string bytes and diagnostics
entries : ℕ → ℕ → ℕ → ℕ → ℕ → ResourceLimits
entries instructions constants upvalues bytes diagnostics = record {
  max_input_bytes = 16777216;
  max_nesting_depth = DEEPEST;
  max_total_prototypes = 16777216;
  max_instructions_per_proto = instructions;
  max_total_instructions = 16777216;
  max_constants_per_proto = constants;
  max_upvalues_per_proto = upvalues;
  max_string_bytes = bytes;
  max_diagnostics = diagnostics;
}

-- the ceilings with other limits of nesting, nested functions, instructions in all and input
limited : ℕ → ℕ → ℕ → ℕ → ResourceLimits
limited nesting functions instructions input = record {
  max_input_bytes = input;
  max_nesting_depth = nesting;
  max_total_prototypes = functions;
  max_instructions_per_proto = 16777216;
  max_total_instructions = instructions;
  max_constants_per_proto = 16777216;
  max_upvalues_per_proto = 16777216;
  max_string_bytes = 16777216;
  max_diagnostics = 10000;
}

cases : List Case
unfolding header small small-reading empty deltas grandchild child second nested ab nested_functions warned-reading nested_reading sibling siblings tagged entries limited
cases =
    record { limits = ceilings; input = small; result = shown small-reading }
    ∷ record { limits = ceilings; input = take 45 small; result = refusal (Truncated 45) }
    ∷ record { limits = ceilings; input = []; result = refusal (Truncated 0) }
    ∷ record { limits = ceilings; input = 0x1b ∷ 0x4c ∷ []; result = refusal (Truncated 0) }
    ∷ record { limits = ceilings; input = deltas 76; result = refusal (Truncated 128) }
    ∷ record { limits = ceilings; input = deltas 77; result = refusal Overflow }
    ∷ record { limits = ceilings; input = nested; result = shown nested_reading }
    ∷ record { limits = limited 2 3 1 121; input = nested; result = shown nested_reading }
    ∷ record { limits = limited 1 3 1 121; input = nested; result = refusal (NestingDepth 73) }
    ∷ record { limits = limited 2 2 1 121; input = nested; result = refusal (TotalPrototypes 102) }
    ∷ record { limits = limited 2 1 1 121; input = nested; result = refusal (Prototypes 62) }
    ∷ record { limits = limited 2 3 0 121; input = nested; result = refusal (TotalInstructions 40) }
    ∷ record { limits = limited 2 3 1 120; input = nested; result = refusal InputBytes }
    ∷ record { limits = limited 15 3 1 120; input = nested; result = refusal LimitAboveCeiling }
    ∷ record { limits = entries 0 2 1 2 2; input = nested; result = refusal (Instructions 40) }
    ∷ record { limits = entries 1 1 1 2 2; input = nested; result = refusal (Constants 45) }
    ∷ record { limits = entries 1 2 0 2 2; input = nested; result = refusal (Upvalues 58) }
    ∷ record { limits = entries 1 2 1 1 2; input = nested; result = refusal (StringBytes 32) }
    ∷ record { limits = entries 1 2 1 2 2; input = nested; result = shown nested_reading }
    ∷ record { limits = entries 1 2 1 2 1; input = nested; result = shown (warned-reading (NonStandardFormat 5 ∷ [])) }
    ∷ record { limits = entries 1 2 1 2 0; input = nested; result = shown (warned-reading []) }
    ∷ record { limits = limited DEEPEST 2 2 200; input = siblings; result = refusal (TotalInstructions 70) }
    ∷ record { limits = limited DEEPEST 2 1 200; input = siblings; result = refusal (TotalInstructions 52) }
    ∷ record { limits = limited DEEPEST 1 3 200; input = siblings; result = refusal (Prototypes 45) }
    ∷ record { limits = ceilings; input = tagged; result = refusal (ConstantTag 40) }
    ∷ record { limits = ceilings; input = set small 0 0x1a; result = refusal (Signature 0) }
    ∷ record { limits = ceilings; input = set small 3 0x62; result = refusal (Signature 0) }
    ∷ record { limits = ceilings; input = set small 4 0x53; result = refusal (Version 4) }
    ∷ record { limits = ceilings; input = set small 11 0x0b; result = refusal (LuacData 6) }
    ∷ record { limits = ceilings; input = set small 12 8; result = refusal (InstructionSize 12) }
    ∷ record { limits = ceilings; input = set small 13 4; result = refusal (LuaIntegerSize 13) }
    ∷ record { limits = ceilings; input = set small 14 4; result = refusal (LuaNumberSize 14) }
    ∷ record { limits = ceilings; input = set small 22 1; result = refusal (LuacInt 15) }
    ∷ record { limits = ceilings; input = set small 30 0xc0; result = refusal (LuacNum 23) }
    ∷ []

cases_hold : map (λ (c : Case). read c.limits c.input) cases ≡ map (λ (c : Case). c.result) cases
unfolding cases read body function header small small-reading empty deltas grandchild child second nested ab nested_functions warned-reading nested_reading sibling siblings tagged entries limited
cases_hold = refl

-- the copies: format 0, byte 31 is main's one upvalue, nested sources absent, the absent local name written as `?`
copied : List Bytes
unfolding header small
copied =
    small
    ∷ (header 0 ++ 1 ∷ 0x83 ∷ 0x61 ∷ 0x62 ∷ 0x81 ∷ 0x89 ∷ 0 ∷ 1 ∷ 2 ∷ 0x81 ∷ 0x38 ∷ 0xff ∷ 0xff ∷ 0x7f
    ∷ 0x82 ∷ 4 ∷ 0x82 ∷ 0x78 ∷ 3 ∷ replicate 8 0xff ++ 0x81 ∷ 1 ∷ 0 ∷ 0 ∷ 0x82
    ∷ 0x80 ∷ 0x82 ∷ 0x83 ∷ 0 ∷ 0 ∷ 2 ∷ 0x80 ∷ 0x80 ∷ 0x80 ∷ 0x81
    ∷ 0x80 ∷ 0x80 ∷ 0x80 ∷ 0 ∷ 0 ∷ 2 ∷ replicate 8 0x80
    ++ 0x82 ∷ 0x01 ∷ 0xff ∷ 0x81 ∷ 0x80 ∷ 0x85 ∷ 0x81 ∷ 0x82 ∷ 0x3f ∷ 0x80 ∷ 0x81 ∷ 0x82 ∷ 0x80 ∷ 0x82 ∷ 0x75
    ∷ 0x80 ∷ 0x80 ∷ 0x80 ∷ 0 ∷ 0 ∷ 2 ∷ replicate 8 0x80
    ++ 0x80 ∷ 0x80 ∷ 0x80 ∷ 0x80 ∷ 9 ∷ [])
    ∷ []

-- three functions, where the total of instructions is not above the limit
function_count : Outcome → ℕ
function_count (shown r) = length r.functions
function_count (refusal q) = 0

siblings_read : function_count (read (limited DEEPEST 2 3 200) siblings) ≡ 3
unfolding function_count read body function header sibling siblings limited
siblings_read = refl

copies_hold : copy small-reading ∷ copy nested_reading ∷ [] ≡ copied
unfolding copied copy behind_source list_bytes shortest mathlib.Core.List.flatten header small small-reading empty nested_functions warned-reading nested_reading ab
copies_hold = refl
