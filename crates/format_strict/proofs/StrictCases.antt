-- The worked cases of the stricter reading (02, item 7): each chunk with what the ordinary reading gives and what the stricter one gives, one theorem over each list.
-- Assumes nothing.
use mathlib.Core.Path.{◌≡◌, refl}
use mathlib.Core.List.{List, [], ◌∷◌, ◌++◌, map}
use Prim.Native.Nat.{ℕ}
use lib.ListN.{length, replicate}
use Rattle.format.specs.declared.limits.ResourceLimits.{ResourceLimits}
use Rattle.format.specs.declared.header.Warning.{Warning}
use Rattle.format.specs.declared.header.Warning.TheVariants.{NonStandardFormat, TrailingBytes}
use Rattle.format.specs.declared.refusal.Refusal.{Refusal}
use Rattle.format.specs.declared.refusal.Refusal.TheVariants.{
  Truncated,
  Overflow,
  VarintOverflow,
  Version,
  LuacData,
  ConstantTag,
  StringBytes,
  Instructions,
  Constants,
  Upvalues,
  Prototypes,
  LimitAboveCeiling,
  InputBytes,
  Format,
  IntOverflow,
  NullString,
}
use Rattle.format.specs.Form.{Bytes}
use Rattle.format.specs.GrammarHeader.{signature, luac_data, luac_int, luac_num}
use Rattle.format.specs.Limits.{ceilings}
use Rattle.format.specs.ReadChunk.{Outcome, shown, refusal, body, function, read}
use Rattle.format_strict.specs.ReadStrict.{strict_body, strict_function, strict_read}

-- what is seen of an outcome: how many functions, the warnings, how many trailing bytes; or the refusal
pub data Seen : Type 0 where
  reads : ℕ → List Warning → ℕ → Seen
  refuses : Refusal → Seen

abbrev pub seen : Outcome → Seen
seen (shown r) = reads (length r.functions) r.warnings (length r.trailing)
seen (refusal q) = refuses q

pub data Case : Type 0 where
  case : ResourceLimits → Bytes → Seen → Seen → Case

-- by the two readings, and as it is to be
abbrev pub found : Case → Seen × Seen
found (case L s ordinary strict) = (seen (read L s), seen (strict_read L s))

abbrev pub wanted : Case → Seen × Seen
wanted (case L s ordinary strict) = (ordinary, strict)

-- ## Limits
-- a nesting limit of 15, one above its ceiling; 45 bytes of input; strings of 1 byte
abbrev pub deep : ResourceLimits
deep = record {
  max_input_bytes = 16777216;
  max_nesting_depth = 15;
  max_total_prototypes = 16777216;
  max_instructions_per_proto = 16777216;
  max_total_instructions = 16777216;
  max_constants_per_proto = 16777216;
  max_upvalues_per_proto = 16777216;
  max_string_bytes = 16777216;
  max_diagnostics = 10000;
}

abbrev pub shorter : ResourceLimits
shorter = record {
  max_input_bytes = 45;
  max_nesting_depth = 14;
  max_total_prototypes = 16777216;
  max_instructions_per_proto = 16777216;
  max_total_instructions = 16777216;
  max_constants_per_proto = 16777216;
  max_upvalues_per_proto = 16777216;
  max_string_bytes = 16777216;
  max_diagnostics = 10000;
}

abbrev pub small : ResourceLimits
small = record {
  max_input_bytes = 16777216;
  max_nesting_depth = 14;
  max_total_prototypes = 16777216;
  max_instructions_per_proto = 16777216;
  max_total_instructions = 16777216;
  max_constants_per_proto = 16777216;
  max_upvalues_per_proto = 16777216;
  max_string_bytes = 1;
  max_diagnostics = 10000;
}

-- ## Parts of a chunk
-- the header behind the check bytes; with this format byte; with format 0
abbrev pub behind : Bytes
behind = 4 ∷ 8 ∷ 8 ∷ luac_int ++ luac_num

abbrev pub formatted : ℕ → Bytes
formatted format = signature ++ 0x54 ∷ format ∷ luac_data ++ behind

abbrev pub front : Bytes
front = formatted 0

-- up to the first line, with byte 31 and without a source; up to the count of words, with both lines 0
abbrev pub sourceless : Bytes
sourceless = front ++ 0x00 ∷ 0x80 ∷ []

abbrev pub plain : Bytes
plain = sourceless ++ 0x80 ∷ 0x80 ∷ 0x00 ∷ 0x00 ∷ 0x02 ∷ []

-- 2^31 - 129, 2^31 - 128; 2^64 - 129, 2^64 - 128
abbrev pub large : Bytes
large = 0x07 ∷ 0x7f ∷ 0x7f ∷ 0x7e ∷ 0xff ∷ []

abbrev pub larger : Bytes
larger = 0x07 ∷ 0x7f ∷ 0x7f ∷ 0x7f ∷ 0x80 ∷ []

abbrev pub huge : Bytes
huge = 0x01 ∷ 0x7f ∷ 0x7f ∷ 0x7f ∷ 0x7f ∷ 0x7f ∷ 0x7f ∷ 0x7f ∷ 0x7e ∷ 0xff ∷ []

abbrev pub largest : Bytes
largest = 0x01 ∷ 0x7f ∷ 0x7f ∷ 0x7f ∷ 0x7f ∷ 0x7f ∷ 0x7f ∷ 0x7f ∷ 0x7f ∷ 0x80 ∷ []

-- ## The cases
-- The format byte: 31 right after it, behind 4 and 5, before 6; 21 and 22 come first
unfoldable pub header : List Case
header =
    -- format 1
    case ceilings (formatted 1 ++ 0x00 ∷ 0x80 ∷ 0x80 ∷ 0x80 ∷ 0x00 ∷ 0x00 ∷ 0x02 ∷ replicate 8 0x80) (reads 1 (NonStandardFormat 5 ∷ []) 0) (refuses (Format 5))
    -- format 1, cut behind it
    ∷ case ceilings (signature ++ 0x54 ∷ 0x01 ∷ []) (refuses (Truncated 6)) (refuses (Format 5))
    -- format 1, check bytes damaged
    ∷ case ceilings (signature ++ 0x54 ∷ 0x01 ∷ 0x19 ∷ 0x93 ∷ 0x0d ∷ 0x0a ∷ 0x1a ∷ 0x0b ∷ behind ++ 0x00 ∷ 0x80 ∷ 0x80 ∷ 0x80 ∷ 0x00 ∷ 0x00 ∷ 0x02 ∷ replicate 8 0x80) (refuses (LuacData 6)) (refuses (Format 5))
    -- cut before the format
    ∷ case ceilings (signature ++ 0x54 ∷ []) (refuses (Truncated 5)) (refuses (Truncated 5))
    -- version 53, format 1
    ∷ case ceilings (signature ++ 0x53 ∷ 0x01 ∷ luac_data ++ behind ++ 0x00 ∷ 0x80 ∷ 0x80 ∷ 0x80 ∷ 0x00 ∷ 0x00 ∷ 0x02 ∷ replicate 8 0x80) (refuses (Version 4)) (refuses (Version 4))
    -- format 1, nesting limit 15
    ∷ case deep (formatted 1 ++ 0x00 ∷ 0x80 ∷ 0x80 ∷ 0x80 ∷ 0x00 ∷ 0x00 ∷ 0x02 ∷ replicate 8 0x80) (refuses LimitAboveCeiling) (refuses LimitAboveCeiling)
    -- format 1, input limit 45
    ∷ case shorter (formatted 1 ++ 0x00 ∷ 0x80 ∷ 0x80 ∷ 0x80 ∷ 0x00 ∷ 0x00 ∷ 0x02 ∷ replicate 8 0x80) (refuses InputBytes) (refuses InputBytes)
    -- format 2, a first line of 2^31
    ∷ case ceilings (formatted 2 ++ 0x00 ∷ 0x80 ∷ 0x08 ∷ 0x00 ∷ 0x00 ∷ 0x00 ∷ 0x80 ∷ 0x80 ∷ 0x00 ∷ 0x00 ∷ 0x02 ∷ replicate 8 0x80) (reads 1 (NonStandardFormat 5 ∷ []) 0) (refuses (Format 5))
    ∷ []

pub header_so : map found header ≡ map wanted header
unfolding header strict_read strict_function strict_body read function body
header_so = refl

-- Ints: 32 at the first byte, once the number is complete; 1 and 3 are found earlier
unfoldable pub ints : List Case
ints =
    -- first line 2^31 - 129
    case ceilings (sourceless ++ large ++ 0x80 ∷ 0x00 ∷ 0x00 ∷ 0x02 ∷ replicate 8 0x80) (reads 1 [] 0) (reads 1 [] 0)
    -- first line 2^31 - 128
    ∷ case ceilings (sourceless ++ larger ++ 0x80 ∷ 0x00 ∷ 0x00 ∷ 0x02 ∷ replicate 8 0x80) (reads 1 [] 0) (refuses (IntOverflow 33))
    -- last line 2^31 - 128
    ∷ case ceilings (sourceless ++ 0x80 ∷ larger ++ 0x00 ∷ 0x00 ∷ 0x02 ∷ replicate 8 0x80) (reads 1 [] 0) (refuses (IntOverflow 34))
    -- first line 2^31 - 128, one group of zeros before
    ∷ case ceilings (sourceless ++ 0x00 ∷ larger ++ 0x80 ∷ 0x00 ∷ 0x00 ∷ 0x02 ∷ replicate 8 0x80) (reads 1 [] 0) (refuses (IntOverflow 33))
    -- first line 1, eleven groups of zeros before
    ∷ case ceilings (sourceless ++ 0x00 ∷ 0x00 ∷ 0x00 ∷ 0x00 ∷ 0x00 ∷ 0x00 ∷ 0x00 ∷ 0x00 ∷ 0x00 ∷ 0x00 ∷ 0x00 ∷ 0x81 ∷ 0x80 ∷ 0x00 ∷ 0x00 ∷ 0x02 ∷ replicate 8 0x80) (reads 1 [] 0) (reads 1 [] 0)
    -- first line 2^31 - 128, cut before its last byte
    ∷ case ceilings (sourceless ++ 0x07 ∷ 0x7f ∷ 0x7f ∷ 0x7f ∷ []) (refuses (Truncated 37)) (refuses (Truncated 37))
    -- first line 2^31 - 128, cut behind it
    ∷ case ceilings (sourceless ++ larger) (refuses (Truncated 38)) (refuses (IntOverflow 33))
    -- first line 2^64 - 129
    ∷ case ceilings (sourceless ++ huge ++ 0x80 ∷ 0x00 ∷ 0x00 ∷ 0x02 ∷ replicate 8 0x80) (reads 1 [] 0) (refuses (IntOverflow 33))
    -- first line 2^64 - 128
    ∷ case ceilings (sourceless ++ largest ++ 0x80 ∷ 0x00 ∷ 0x00 ∷ 0x02 ∷ replicate 8 0x80) (refuses VarintOverflow) (refuses VarintOverflow)
    -- an anchor's pc 2^31 - 128
    ∷ case ceilings (plain ++ replicate 5 0x80 ++ 0x81 ∷ larger ++ 0x80 ∷ 0x80 ∷ 0x80 ∷ []) (reads 1 [] 0) (refuses (IntOverflow 44))
    -- an anchor's line 2^31 - 128
    ∷ case ceilings (plain ++ replicate 5 0x80 ++ 0x81 ∷ 0x80 ∷ larger ++ 0x80 ∷ 0x80 ∷ []) (reads 1 [] 0) (refuses (IntOverflow 45))
    -- a local's startpc 2^31 - 128
    ∷ case ceilings (plain ++ replicate 6 0x80 ++ 0x81 ∷ 0x80 ∷ larger ++ 0x80 ∷ 0x80 ∷ []) (reads 1 [] 0) (refuses (IntOverflow 46))
    -- a local's endpc 2^31 - 128
    ∷ case ceilings (plain ++ replicate 6 0x80 ++ 0x81 ∷ 0x80 ∷ 0x80 ∷ larger ++ 0x80 ∷ []) (reads 1 [] 0) (refuses (IntOverflow 47))
    ∷ []

pub ints_so : map found ints ≡ map wanted ints
unfolding ints strict_read strict_function strict_body read function body
ints_so = refl

-- Counts: 32 before the limit, and before 1 and 2 of what is counted
unfoldable pub counts : List Case
counts =
    -- instructions 2^31 - 128
    case ceilings (plain ++ larger ++ replicate 7 0x80) (refuses (Instructions 38)) (refuses (IntOverflow 38))
    -- instructions 16,777,217
    ∷ case ceilings (plain ++ 0x08 ∷ 0x00 ∷ 0x00 ∷ 0x81 ∷ replicate 7 0x80) (refuses (Instructions 38)) (refuses (Instructions 38))
    -- constants 2^31 - 128
    ∷ case ceilings (plain ++ 0x80 ∷ larger ++ replicate 6 0x80) (refuses (Constants 39)) (refuses (IntOverflow 39))
    -- upvalues 2^31 - 128
    ∷ case ceilings (plain ++ 0x80 ∷ 0x80 ∷ larger ++ replicate 5 0x80) (refuses (Upvalues 40)) (refuses (IntOverflow 40))
    -- nested functions 2^31 - 128
    ∷ case ceilings (plain ++ 0x80 ∷ 0x80 ∷ 0x80 ∷ larger ++ replicate 4 0x80) (refuses (Prototypes 41)) (refuses (IntOverflow 41))
    -- deltas 2^31 - 129
    ∷ case ceilings (plain ++ replicate 4 0x80 ++ large ++ 0x80 ∷ 0x80 ∷ 0x80 ∷ []) (refuses (Truncated 47)) (refuses (Truncated 47))
    -- deltas 2^31 - 128
    ∷ case ceilings (plain ++ replicate 4 0x80 ++ larger ++ 0x80 ∷ 0x80 ∷ 0x80 ∷ []) (refuses (Truncated 47)) (refuses (IntOverflow 42))
    -- deltas 2^64 - 129, the first at place 128
    ∷ case ceilings (front ++ 0x00 ∷ 0xcd ∷ replicate 76 0x73 ++ 0x80 ∷ 0x80 ∷ 0x00 ∷ 0x00 ∷ 0x02 ∷ replicate 4 0x80 ++ huge ++ 0x80 ∷ 0x80 ∷ 0x80 ∷ []) (refuses (Truncated 128)) (refuses (IntOverflow 118))
    -- deltas 2^64 - 129, the first at place 129
    ∷ case ceilings (front ++ 0x00 ∷ 0xce ∷ replicate 77 0x73 ++ 0x80 ∷ 0x80 ∷ 0x00 ∷ 0x00 ∷ 0x02 ∷ replicate 4 0x80 ++ huge ++ 0x80 ∷ 0x80 ∷ 0x80 ∷ []) (refuses Overflow) (refuses (IntOverflow 119))
    -- anchors 2^31 - 128
    ∷ case ceilings (plain ++ replicate 5 0x80 ++ larger ++ 0x80 ∷ 0x80 ∷ []) (refuses (Truncated 50)) (refuses (IntOverflow 43))
    -- locals 2^31 - 128
    ∷ case ceilings (plain ++ replicate 6 0x80 ++ larger ++ 0x80 ∷ []) (refuses (Truncated 50)) (refuses (IntOverflow 44))
    -- upvalue names 2^31 - 128
    ∷ case ceilings (plain ++ replicate 7 0x80 ++ larger) (refuses (Truncated 50)) (refuses (IntOverflow 45))
    ∷ []

pub counts_so : map found counts ≡ map wanted counts
unfolding counts strict_read strict_function strict_body read function body
counts_so = refl

-- String sizes are no ints; 33 is for constants alone, behind the size
unfoldable pub strings : List Case
strings =
    -- source size 2^31 - 128
    case ceilings (front ++ 0x00 ∷ larger ++ 0x80 ∷ 0x80 ∷ 0x00 ∷ 0x00 ∷ 0x02 ∷ replicate 8 0x80) (refuses (StringBytes 32)) (refuses (StringBytes 32))
    -- source size 2^64 - 128
    ∷ case ceilings (front ++ 0x00 ∷ largest ++ 0x80 ∷ 0x80 ∷ 0x00 ∷ 0x00 ∷ 0x02 ∷ replicate 8 0x80) (refuses VarintOverflow) (refuses VarintOverflow)
    -- a short string of size 0
    ∷ case ceilings (plain ++ 0x80 ∷ 0x81 ∷ 0x04 ∷ replicate 7 0x80) (reads 1 [] 0) (refuses (NullString 41))
    -- a long string of size 0, padded
    ∷ case ceilings (plain ++ 0x80 ∷ 0x81 ∷ 0x14 ∷ 0x00 ∷ 0x00 ∷ replicate 7 0x80) (reads 1 [] 0) (refuses (NullString 41))
    -- a short string of size 0, cut behind it
    ∷ case ceilings (plain ++ 0x80 ∷ 0x81 ∷ 0x04 ∷ 0x80 ∷ []) (refuses (Truncated 42)) (refuses (NullString 41))
    -- a short string of size 1
    ∷ case ceilings (plain ++ 0x80 ∷ 0x81 ∷ 0x04 ∷ 0x81 ∷ replicate 6 0x80) (reads 1 [] 0) (reads 1 [] 0)
    -- a string of size 3, string limit 1
    ∷ case small (plain ++ 0x80 ∷ 0x81 ∷ 0x04 ∷ 0x83 ∷ 0x78 ∷ 0x79 ∷ replicate 6 0x80) (refuses (StringBytes 41)) (refuses (StringBytes 41))
    -- absent source, local name, upvalue name
    ∷ case ceilings (plain ++ 0x80 ∷ 0x80 ∷ 0x81 ∷ 0x00 ∷ 0x00 ∷ 0x00 ∷ 0x80 ∷ 0x80 ∷ 0x80 ∷ 0x81 ∷ 0x80 ∷ 0x80 ∷ 0x80 ∷ 0x81 ∷ 0x80 ∷ []) (reads 1 [] 0) (reads 1 [] 0)
    ∷ []

pub strings_so : map found strings ≡ map wanted strings
unfolding strings strict_read strict_function strict_body read function body
strings_so = refl

-- And what is read as before, or refused as before
unfoldable pub others : List Case
others =
    -- 01's 46 bytes
    case ceilings (plain ++ replicate 8 0x80) (reads 1 [] 0) (reads 1 [] 0)
    -- an upvalue name without an upvalue
    ∷ case ceilings (plain ++ replicate 7 0x80 ++ 0x81 ∷ 0x80 ∷ []) (reads 1 [] 0) (reads 1 [] 0)
    -- tag 2
    ∷ case ceilings (plain ++ 0x80 ∷ 0x81 ∷ 0x02 ∷ replicate 6 0x80) (refuses (ConstantTag 40)) (refuses (ConstantTag 40))
    -- three trailing bytes
    ∷ case ceilings (plain ++ replicate 8 0x80 ++ 0x61 ∷ 0x62 ∷ 0x63 ∷ []) (reads 1 (TrailingBytes 46 ∷ []) 3) (reads 1 (TrailingBytes 46 ∷ []) 3)
    -- a first line of 2^31 behind a string constant of size 0 in an earlier function
    ∷ case ceilings (plain ++ 0x80 ∷ 0x81 ∷ 0x04 ∷ 0x80 ∷ 0x80 ∷ 0x81 ∷ 0x80 ∷ 0x08 ∷ 0x00 ∷ 0x00 ∷ 0x00 ∷ 0x80 ∷ 0x80 ∷ 0x00 ∷ 0x00 ∷ 0x02 ∷ replicate 12 0x80) (reads 2 [] 0) (refuses (NullString 41))
    ∷ []

pub others_so : map found others ≡ map wanted others
unfolding others strict_read strict_function strict_body read function body
others_so = refl
