-- The archive copy of a reading (01 'chunk.rs', `encode_chunk_lua54`): format 0, byte 31 is main's upvalue count modulo 256, shortest numbers,
-- nested sources absent, trailing bytes as they were; and what a copy keeps of a reading. After ldump.c (crates/format_lua/specs/LdumpFunctions.antt).
use Rattle.std.specs.Prelude.{Bool, true, false, ℕ, zero, suc, ◌/◌, ◌%◌, length, take, drop}
use mathlib.Core.List.{List, [], ◌∷◌, ◌++◌, map, foldr, flatten}
use Rattle.std.proofs.Math.Option
use Rattle.std.proofs.Math.Option.{Option, none, some}
use Rattle.format.specs.declared.entry.UpvalueDesc.{UpvalueDesc}
use Rattle.format.specs.declared.entry.AbsLineInfo.{AbsLineInfo}
use Rattle.format.specs.Form.{Bytes}
use Rattle.format.specs.GrammarFields.{LuaString}
use Rattle.format.specs.GrammarHeader.{signature, luac_data, luac_int, luac_num, header_of}
use Rattle.format.specs.Reading.{ConstantValue, nil, boolean, integer, float, short_string, long_string, LocalVar, Places, Prototype, Reading}
use Rattle.format.specs.Shortest.{shortest}

-- ## The bytes of each part
-- a field of n bytes, low byte first
abbrev pub field_bytes : ℕ → ℕ → Bytes
field_bytes zero v = []
field_bytes (suc n) v = v % 256 ∷ field_bytes n (v / 256)

abbrev pub string_bytes : LuaString → Bytes
string_bytes t = shortest (suc (length t.bytes)) ++ t.bytes

abbrev pub option_bytes : Option LuaString → Bytes
option_bytes none = shortest 0
option_bytes (some t) = string_bytes t

abbrev pub constant_bytes : ConstantValue → Bytes
constant_bytes nil = field_bytes 1 0
constant_bytes (boolean false) = field_bytes 1 1
constant_bytes (boolean true) = field_bytes 1 17
constant_bytes (integer n) = field_bytes 1 3 ++ field_bytes 8 n
constant_bytes (float n) = field_bytes 1 19 ++ field_bytes 8 n
constant_bytes (short_string t) = field_bytes 1 4 ++ string_bytes t
constant_bytes (long_string t) = field_bytes 1 20 ++ string_bytes t

abbrev pub upvalue_bytes : UpvalueDesc → Bytes
upvalue_bytes u = field_bytes 1 u.instack ++ (field_bytes 1 u.idx ++ field_bytes 1 u.kind)

abbrev pub anchor_bytes : AbsLineInfo → Bytes
anchor_bytes a = shortest a.pc ++ shortest a.line

abbrev pub local_bytes : LocalVar → Bytes
local_bytes l = string_bytes l.name ++ (shortest l.startpc ++ shortest l.endpc)

-- a list behind its count
unfoldable pub list_bytes : {A : Type 0} → (A → Bytes) → List A → Bytes
list_bytes bytes xs = shortest (length xs) ++ flatten (map bytes xs)

-- ## Functions
-- a function behind its source, with the bytes of the functions nested in it
unfoldable pub behind_source : Prototype → Bytes → Bytes
behind_source p nested =
    shortest p.line_defined
    ++ (shortest p.last_line_defined
    ++ (field_bytes 1 p.numparams
    ++ (field_bytes 1 p.is_vararg
    ++ (field_bytes 1 p.maxstacksize
    ++ (list_bytes (field_bytes 4) p.instructions
    ++ (list_bytes constant_bytes p.constants
    ++ (list_bytes upvalue_bytes p.upvalues
    ++ (shortest p.protos
    ++ (nested
    ++ (shortest (length p.line_info_lem)
    ++ (p.line_info_lem
    ++ (list_bytes anchor_bytes p.abs_line_info
    ++ (list_bytes local_bytes p.loc_vars
    ++ list_bytes option_bytes p.upvalue_names_lem)))))))))))))

-- The functions are gone through from the last to the first: each takes as many of the functions that follow it as nest in it, and its source is absent.
abbrev pub nest : Prototype → List Bytes → List Bytes
nest p later = (option_bytes none ++ behind_source p (flatten (take p.protos later))) ∷ drop p.protos later

-- main, with its source, and all functions nested in it
abbrev pub functions_bytes : List Prototype → Bytes
functions_bytes [] = []
functions_bytes (p ∷ ps) = option_bytes p.source_name ++ behind_source p (flatten (foldr nest [] ps))

-- ## Chunks
abbrev pub header_bytes : ℕ → Bytes
header_bytes format = signature ++ (0x54 ∷ format ∷ luac_data ++ (4 ∷ 8 ∷ 8 ∷ luac_int ++ luac_num))

abbrev pub upvalues_of_main : List Prototype → ℕ
upvalues_of_main [] = 0
upvalues_of_main (p ∷ ps) = length p.upvalues

unfoldable pub copy : Reading → Bytes
copy r = header_bytes 0 ++ (field_bytes 1 (upvalues_of_main r.functions) ++ (functions_bytes r.functions ++ r.trailing))

-- ## What a copy keeps: the reading with format byte, warnings, nested source names and places set aside
abbrev pub kept_string : LuaString → LuaString
kept_string t = record { place = 0; bytes = t.bytes }

abbrev pub kept_constant : ConstantValue → ConstantValue
kept_constant nil = nil
kept_constant (boolean b) = boolean b
kept_constant (integer n) = integer n
kept_constant (float n) = float n
kept_constant (short_string t) = short_string (kept_string t)
kept_constant (long_string t) = long_string (kept_string t)

abbrev pub kept_local : LocalVar → LocalVar
kept_local l = record { name = kept_string l.name; startpc = l.startpc; endpc = l.endpc }

abbrev pub no_places : Places
no_places = record { instructions = 0; constants = 0; upvalues = 0; protos = 0; line_info_lem = 0; abs_line_info = 0; loc_vars = 0; upvalue_names_lem = 0 }

-- a function, with the source that is kept of it
abbrev pub kept_function : Option LuaString → Prototype → Prototype
kept_function source p = record {
  depth = p.depth;
  parent = p.parent;
  start = 0;
  end = 0;
  source_name = source;
  line_defined = p.line_defined;
  last_line_defined = p.last_line_defined;
  numparams = p.numparams;
  is_vararg = p.is_vararg;
  maxstacksize = p.maxstacksize;
  instructions = p.instructions;
  constants = map kept_constant p.constants;
  upvalues = p.upvalues;
  protos = p.protos;
  line_info_lem = p.line_info_lem;
  abs_line_info = p.abs_line_info;
  loc_vars = map kept_local p.loc_vars;
  upvalue_names_lem = map (Option.map kept_string) p.upvalue_names_lem;
  places = no_places;
}

abbrev pub kept_nested : Prototype → Prototype
kept_nested p = kept_function none p

abbrev pub kept_functions : List Prototype → List Prototype
kept_functions [] = []
kept_functions (p ∷ ps) = kept_function (Option.map kept_string p.source_name) p ∷ map kept_nested ps

unfoldable pub kept : Reading → Reading
kept r = record { header = header_of 0; warnings = []; functions = kept_functions r.functions; trailing_at = 0; trailing = r.trailing }
