-- Worked cases of Lua's own dumper as it is defined (`luaU_dump`, specs/LdumpFunctions.antt): chunks, what is written of them once they are loaded, and whether the copy is that.
--     dumps_hold           what is written: Lua 5.4.4 was run on each chunk (`string.dump` of `load`, with strip and without), and wrote these bytes
--     copies_part          where the copy is that, and where not: each condition of `proofs/LdumpWhole.antt` is needed
--     alike_meets          a chunk of two functions, with constants, an upvalue, a local and a trailing byte, meets all that is asked there,
--     alike_copied         and so its copy is what `luaU_dump` writes
--     bare_meets           and a chunk with nothing to strip meets what is asked there of such
--     full_part            where the full copy is that, and where not (`proofs/LdumpFull.antt`)
--     joined_meets         a chunk with a second source, and one in it that inherits it, meets all that is asked there
-- So this refuses a dumper that writes every source, or no nested one, that compares sources by their bytes or by their places alone, that writes the tags, the local names or the upvalue names as they
-- were read, or that keeps the byte behind the header.
-- Assumes nothing.
use mathlib.Core.Path.{◌≡◌, refl, ap}
use mathlib.Core.Bool.{Bool, true, false}
use mathlib.Core.List.{List, [], ◌∷◌, ◌++◌, map}
use mathlib.Core.Option.{none}
use lib.ListN.{replicate}
use Rattle.format.specs.Form.{Bytes, All}
use Rattle.format.specs.Limits.{ceilings}
use Rattle.format.specs.Reading.{Prototype, Reading}
use Rattle.format.specs.ReadHeader.{same_bytes}
use Rattle.format.specs.ReadChunk.{body, function, Outcome, shown, refusal, read}
use Rattle.format.specs.Shortest.{shortest}
use Rattle.format.specs.Copy.{list_bytes, behind_source, copy}
use Rattle.format.specs.FullCopy.{all_within, full_function, full_copy}
use Rattle.format_lua.specs.Ldump.{dump_size}
use Rattle.format_lua.specs.LdumpFunctions.{dump_function, lua_u_dump}
use Rattle.format.proofs.Distinct.{functions_of}
use Rattle.format.proofs.ReadChunkLaws.{read_sound}
use Rattle.format_lua.proofs.LdumpWhole.{source_of, AsLua, AsStripped, copy_as_dumped}
use Rattle.format_lua.proofs.LdumpFull.{AsLuaInFull}
use Rattle.format_lua.proofs.LuaChunks.{header, full}

-- a function of lines 1 and 2, no words, and two registers: its source, constants, upvalues, nested functions, no deltas and no anchors, its locals and upvalue names
fn : Bytes → Bytes → Bytes → Bytes → Bytes → Bytes → Bytes
fn source constants upvalues protos locals names = source ++ 0x81 ∷ 0x82 ∷ 0 ∷ 0 ∷ 2 ∷ 0x80 ∷ constants ++ upvalues ++ protos ++ 0x80 ∷ 0x80 ∷ locals ++ names

-- an absent string, or a list of nothing
empty : Bytes
empty = 0x80 ∷ []

-- with a source, and with one function in it
leaf : Bytes → Bytes
unfolding fn empty
leaf source = fn source empty empty empty empty empty

around : Bytes → Bytes → Bytes
unfolding fn empty
around source nested = header ++ 0 ∷ fn source empty empty (0x81 ∷ nested) empty empty

-- main alone: its constants, its locals
holding : Bytes → Bytes → Bytes
unfolding fn empty
holding constants locals = header ++ 0 ∷ fn empty constants empty empty locals empty

-- a string of so many bytes
a40 : Bytes
a40 = 0xa9 ∷ replicate 40 0x61

a41 : Bytes
a41 = 0xaa ∷ replicate 41 0x61

alike : Bytes
unfolding fn leaf empty a41
alike =
    header ++ 1 ∷ fn (0x83 ∷ 0x40 ∷ 0x6d ∷ []) (0x82 ∷ 4 ∷ 0x82 ∷ 0x78 ∷ 20 ∷ a41) (0x81 ∷ 1 ∷ 0 ∷ 0 ∷ []) (0x81 ∷ leaf empty) (0x81 ∷ 0x82 ∷ 0x69 ∷ 0x80 ∷ 0x81 ∷ []) (0x81 ∷ 0x82 ∷ 0x75 ∷ [])

-- an upvalue without a name, and a nested function
bare : Bytes
unfolding fn leaf empty
bare = header ++ 1 ∷ fn empty empty (0x81 ∷ 1 ∷ 0 ∷ 0 ∷ []) (0x81 ∷ leaf empty) empty empty

full_stripped : Bytes
full_stripped =
    header ++ 1 ∷ 0x80 ∷ 0x8a ∷ 0x9e ∷ 3 ∷ 1 ∷ 7 ∷ 0x82 ∷ 0x38 ∷ 0xff ∷ 0xff ∷ 0x7f ∷ 0x46 ∷ 0 ∷ 0 ∷ 1
    ∷ 0x87 ∷ 0 ∷ 1 ∷ 17 ∷ 3 ∷ 0xfe ∷ replicate 7 0xff ++ 19 ∷ 0 ∷ 0 ∷ 0 ∷ 0 ∷ 0 ∷ 0 ∷ 4 ∷ 0x40 ∷ 4 ∷ 0x82 ∷ 0x78 ∷ 20 ∷ 0xaa ∷ replicate 41 0x61
    ++ 0x81 ∷ 1 ∷ 0 ∷ 2 ∷ 0x82
    ∷ 0x80 ∷ 0x8b ∷ 0x8f ∷ 1 ∷ 0 ∷ 3 ∷ 0x81 ∷ 4 ∷ 3 ∷ 2 ∷ 1 ∷ 0x80 ∷ 0x82 ∷ 0 ∷ 0 ∷ 0 ∷ 1 ∷ 5 ∷ 1 ∷ 0x81
    ∷ 0x80 ∷ 0x8c ∷ 0x8d ∷ 0 ∷ 0 ∷ 2 ∷ replicate 12 0x80
    ++ 0x80 ∷ 0x90 ∷ 0x91 ∷ 0 ∷ 0 ∷ 4 ∷ replicate 12 0x80

record Case : Type 0 where
  strip : Bool
  chunk : Bytes
  dump : Bytes
  copied : Bool
  kept : Bool

cases : List Case
unfolding fn empty leaf around holding a40 a41 alike bare full_stripped
cases =
    -- all conditions are met; and byte 31 and padding are not kept
    record { strip = false; chunk = alike; dump = alike; copied = true; kept = true }
    ∷ record {
      strip = false;
      chunk = header ++ 9 ∷ 0 ∷ 0x83 ∷ 0x40 ∷ 0x6d ∷ 0 ∷ 0x81 ∷ 0 ∷ 0 ∷ 0x82 ∷ 0 ∷ 0 ∷ 2 ∷ 0x80 ∷ 0x80 ∷ 0x81 ∷ 1 ∷ 0 ∷ 0 ∷ 0x80 ∷ 0x80 ∷ 0x80 ∷ 0x80 ∷ 0x81 ∷ 0x82 ∷ 0x75 ∷ [];
      dump = header ++ 1 ∷ 0x83 ∷ 0x40 ∷ 0x6d ∷ 0x81 ∷ 0x82 ∷ 0 ∷ 0 ∷ 2 ∷ 0x80 ∷ 0x80 ∷ 0x81 ∷ 1 ∷ 0 ∷ 0 ∷ 0x80 ∷ 0x80 ∷ 0x80 ∷ 0x80 ∷ 0x81 ∷ 0x82 ∷ 0x75 ∷ [];
      copied = true;
      kept = true;
    }
    -- a nested source: another; the same, short; the same, long; a long one that is inherited; one where main has none
    ∷ record { strip = false; chunk = around (0x82 ∷ 0x6d ∷ []) (leaf (0x82 ∷ 0x6e ∷ [])); dump = around (0x82 ∷ 0x6d ∷ []) (leaf (0x82 ∷ 0x6e ∷ [])); copied = false; kept = true }
    ∷ record { strip = false; chunk = around a40 (leaf a40); dump = around a40 (leaf empty); copied = true; kept = true }
    ∷ record { strip = false; chunk = around a41 (leaf a41); dump = around a41 (leaf a41); copied = false; kept = false }
    ∷ record { strip = false; chunk = around a41 (leaf empty); dump = around a41 (leaf empty); copied = true; kept = true }
    ∷ record { strip = false; chunk = around empty (leaf (0x82 ∷ 0x6e ∷ [])); dump = around empty (leaf (0x82 ∷ 0x6e ∷ [])); copied = false; kept = true }
    -- an absent local name
    ∷ record { strip = false; chunk = holding empty (0x81 ∷ 0x80 ∷ 0x80 ∷ 0x81 ∷ []); dump = holding empty (0x81 ∷ 0x80 ∷ 0x80 ∷ 0x81 ∷ []); copied = false; kept = false }
    -- an upvalue without a name
    ∷ record { strip = false; chunk = header ++ 1 ∷ fn empty empty (0x81 ∷ 1 ∷ 0 ∷ 0 ∷ []) empty empty empty; dump = header ++ 1 ∷ fn empty empty (0x81 ∷ 1 ∷ 0 ∷ 0 ∷ []) empty empty (0x81 ∷ 0x80 ∷ []); copied = false; kept = false }
    -- a long tag on a short string, a short one on a long string
    ∷ record { strip = false; chunk = holding (0x81 ∷ 20 ∷ 0x82 ∷ 0x78 ∷ []) empty; dump = holding (0x81 ∷ 4 ∷ 0x82 ∷ 0x78 ∷ []) empty; copied = false; kept = false }
    ∷ record { strip = false; chunk = holding (0x81 ∷ 4 ∷ a41) empty; dump = holding (0x81 ∷ 20 ∷ a41) empty; copied = false; kept = false }
    -- all at once
    ∷ record { strip = false; chunk = full; dump = full; copied = false; kept = false }
    -- stripped: what has nothing to strip, and `full`
    ∷ record { strip = true; chunk = bare; dump = bare; copied = true; kept = true }
    ∷ record { strip = true; chunk = full; dump = full_stripped; copied = false; kept = false }
    ∷ []

copy_of : Outcome → Bytes
copy_of (shown r) = copy r
copy_of (refusal q) = []

dumped : Case → Bytes
dumped c = lua_u_dump c.strip (functions_of (read ceilings c.chunk))

dumps_hold : map dumped cases ≡ map (λ (c : Case). c.dump) cases
unfolding cases dumped read body function lua_u_dump dump_function dump_size mathlib.Core.List.flatten fn empty leaf around holding a40 a41 alike bare full_stripped
dumps_hold = refl

copies_part : map (λ (c : Case). same_bytes (copy_of (read ceilings c.chunk)) (dumped c)) cases ≡ map (λ (c : Case). c.copied) cases
unfolding cases dumped copy_of read body function copy behind_source list_bytes shortest lua_u_dump dump_function dump_size mathlib.Core.List.flatten fn empty leaf around holding a40 a41 alike bare full_stripped
copies_part = refl

full_of : Outcome → Bytes
full_of (shown r) = full_copy r
full_of (refusal q) = []

full_part : map (λ (c : Case). same_bytes (full_of (read ceilings c.chunk)) (dumped c)) cases ≡ map (λ (c : Case). c.kept) cases
unfolding cases dumped full_of read body function full_copy all_within full_function behind_source list_bytes shortest lua_u_dump dump_function dump_size mathlib.Core.List.flatten fn empty leaf around holding a40 a41 alike bare full_stripped
full_part = refl

-- ## What is asked can be met
trailed : Bytes
unfolding alike fn leaf empty a41
trailed = alike ++ 9 ∷ []

functions : List Prototype
functions = functions_of (read ceilings trailed)

alike_meets : All (AsLua functions) functions
unfolding functions trailed read body function fn empty leaf a41 alike
alike_meets = (
  record { source = refl; tags = (refl, (refl, tt)); locals = (refl, tt); names = refl },
  (
    record { source = refl; tags = tt; locals = tt; names = refl },
    tt,
  ),
)

alike_copied : (r : Reading) → read ceilings trailed ≡ shown r → copy r ≡ lua_u_dump false r.functions ++ r.trailing
unfolding functions
alike_copied r e =
    let same : functions ≡ r.functions = ap functions_of e in
    copy_as_dumped ceilings trailed r (read_sound ceilings trailed r e) (rw same at alike_meets)

bare-functions : List Prototype
bare-functions = functions_of (read ceilings bare)

bare_meets : (source_of bare-functions 0 ≡ none) × All AsStripped bare-functions
unfolding bare-functions bare read body function fn empty leaf
bare_meets = (
  refl,
  (
    record { tags = tt; line_info_lem = refl; abs_line_info = refl; loc_vars = refl; upvalue_names_lem = refl },
    (
      record { tags = tt; line_info_lem = refl; abs_line_info = refl; loc_vars = refl; upvalue_names_lem = refl },
      tt,
    ),
  ),
)

joined : Bytes
unfolding fn empty leaf around
joined = around (0x82 ∷ 0x6d ∷ []) (fn (0x82 ∷ 0x6e ∷ []) empty empty (0x81 ∷ leaf empty) empty empty)

joined-functions : List Prototype
joined-functions = functions_of (read ceilings joined)

joined_meets : All (AsLuaInFull joined-functions) joined-functions
unfolding joined-functions joined read body function fn empty leaf around
joined_meets = (
  record { source = refl; tags = tt; locals = tt; names = refl },
  (
    record { source = refl; tags = tt; locals = tt; names = refl },
    (
      record { source = refl; tags = tt; locals = tt; names = refl },
      tt,
    ),
  ),
)
