-- The full copy of a reading (02, item 6): the archive copy (specs/Copy.antt), but that a nested source is absent exactly where its bytes are the parent's, both as read, or both are missing, and is
-- written otherwise; and what a full copy keeps of a reading. After ldump.c's `dumpFunction` (crates/format_lua/specs/LdumpFunctions.antt), which compares pointers where 02 compares bytes.
use Rattle.std.specs.Prelude.{Bool, true, false, cond, take, drop}
use mathlib.Core.List.{List, [], ◌∷◌, ◌++◌, map, foldr, flatten}
use Rattle.std.proofs.Math.Option
use Rattle.std.proofs.Math.Option.{Option, none, some}
use Rattle.format.specs.Form.{Bytes}
use Rattle.format.specs.GrammarFields.{LuaString}
use Rattle.format.specs.GrammarHeader.{header_of}
use Rattle.format.specs.ReadHeader.{same_bytes}
use Rattle.format.specs.Reading.{Prototype, Reading}
use Rattle.format.specs.Copy.{field_bytes, option_bytes, behind_source, header_bytes, upvalues_of_main, kept_string, kept_function}

-- ## Sources
-- whether two sources are the same: both missing, or of the same bytes, wherever these stand. (An empty one is not missing)
abbrev pub equal_sources : Option LuaString → Option LuaString → Bool
equal_sources none none = true
equal_sources none (some u) = false
equal_sources (some t) none = false
equal_sources (some t) (some u) = same_bytes t.bytes u.bytes

-- what is written of a function's source, by its parent's and its own, both as read. (Main has no parent, and its own is written as it is)
abbrev pub nested_source : Option LuaString → Option LuaString → Option LuaString
nested_source parent own = cond (equal_sources own parent) none own

-- ## Functions
-- a function's bytes, with those of all that nest in it, by its parent's source. `dumpFunction(D, f, psource)`
abbrev pub Within : Type 0
Within = Option LuaString → Bytes

-- functions one after the other, in a function with this source
unfoldable pub all_within : Option LuaString → List Within → Bytes
all_within source fs = flatten (map (λ (f : Within). f source) fs)

-- a function, with those that nest in it
unfoldable pub full_function : Prototype → List Within → Within
full_function p nested parent = option_bytes (nested_source parent p.source_name) ++ behind_source p (all_within p.source_name nested)

-- As `nest` of specs/Copy.antt: from the last function to the first, each takes as many of the functions that follow it as nest in it.
abbrev pub full_nest : Prototype → List Within → List Within
full_nest p later = full_function p (take p.protos later) ∷ drop p.protos later

-- main, and all functions nested in it. `dumpFunction(&D, f, NULL)`
abbrev pub full_functions : List Prototype → Bytes
full_functions ps = all_within none (foldr full_nest [] ps)

-- ## Chunks
unfoldable pub full_copy : Reading → Bytes
full_copy r = header_bytes 0 ++ (field_bytes 1 (upvalues_of_main r.functions) ++ (full_functions r.functions ++ r.trailing))

-- ## What a full copy keeps: the reading with format byte, warnings and places set aside; every source name is kept
abbrev pub kept_sourced : Prototype → Prototype
kept_sourced p = kept_function (Option.map kept_string p.source_name) p

unfoldable pub kept_full : Reading → Reading
kept_full r = record { header = header_of 0; warnings = []; functions = map kept_sourced r.functions; trailing_at = 0; trailing = r.trailing }
