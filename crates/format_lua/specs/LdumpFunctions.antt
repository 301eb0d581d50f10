-- From ldump.c (Lua 5.4.4), close to the text: what `luaU_dump` writes of a function that Lua loaded, each part under the name of its C function.
-- A Proto is shown as our `Prototype`, and a tree of them as the list of its functions, each before those that nest in it; what Lua holds and our reading does not show is
-- said at `ttypetag`, `sameSource` and `varname`. These names are ours: unless_stripped, object, same_source (a test of two pointers), Dump, dump_nested (how the list is gone through), dump_each (a count and a
-- loop), varname, upvalue_names (two fields), and, for one turn of a loop, dump_constant, dump_upvalue, dump_abs_line_info, dump_loc_var.
-- `proofs/LdumpWhole.antt` shows that the archive copy is this, under four conditions, and stripped, where nothing is left to strip; `proofs/LdumpCase.antt` has worked cases.
use Rattle.std.specs.Prelude.{Bool, true, false, ◌&&◌, ◌||◌, cond, ℕ, zero, suc, ◌+◌, ◌*◌, leb, eqb, length, take, drop}
use mathlib.Core.List.{List, [], ◌∷◌, ◌++◌, map, foldr, flatten}
use Rattle.std.proofs.Math.Option.{Option, none, some}
use Rattle.format.specs.declared.entry.UpvalueDesc.{UpvalueDesc}
use Rattle.format.specs.declared.entry.AbsLineInfo.{AbsLineInfo}
use Rattle.format.specs.Form.{Bytes}
use Rattle.format.specs.GrammarFields.{LuaString}
use Rattle.format.specs.GrammarHeader.{signature, luac_data}
use Rattle.format.specs.Reading.{ConstantValue, nil, boolean, integer, float, short_string, long_string, LocalVar, Prototype}
use Rattle.format.specs.ReadHeader.{same_bytes}
use Rattle.format.specs.Copy.{field_bytes}
use Rattle.format_lua.specs.Ldump.{dump_size}

-- dump_size(D, x). C's x is an int: numbers from 2^31 on are outside the C
abbrev pub dump_int : ℕ → Bytes
dump_int x = dump_size x

abbrev pub dump_byte : ℕ → Bytes
dump_byte y = field_bytes 1 y

abbrev pub dump_integer : ℕ → Bytes
dump_integer x = field_bytes 8 x

abbrev pub dump_number : ℕ → Bytes
dump_number x = field_bytes 8 x

-- if (s == NULL) dump_size(D, 0); else { dump_size(D, size + 1); dumpVector(D, str, size); }
abbrev pub dump_string : Option LuaString → Bytes
dump_string none = dump_size 0
dump_string (some s) = dump_size (suc (length s.bytes)) ++ s.bytes

-- dump_int(D, n); for (i = 0; i < n; i++) ..
abbrev pub dump_each : {A : Type 0} → (A → Bytes) → List A → Bytes
dump_each dump xs = dump_int (length xs) ++ flatten (map dump xs)

abbrev pub dump_code : Prototype → Bytes
dump_code f = dump_each (field_bytes 4) f.instructions

-- a string is short up to LUAI_MAXSHORTLEN, and long above (`loadStringN`)
abbrev pub is_short : LuaString → Bool
is_short s = leb (length s.bytes) 40

-- of a string: LUA_VSHRSTR or LUA_VLNGSTR, by its length. The tag that was read, which our reading shows, is not kept
abbrev pub ttypetag : LuaString → ℕ
ttypetag s = cond (is_short s) 4 20

-- int tt = ttypetag(o); dump_byte(D, tt); switch (tt) ..
abbrev pub dump_constant : ConstantValue → Bytes
dump_constant nil = dump_byte 0
dump_constant (boolean false) = dump_byte 1
dump_constant (boolean true) = dump_byte 17
dump_constant (integer n) = dump_byte 3 ++ dump_integer n
dump_constant (float n) = dump_byte 19 ++ dump_number n
dump_constant (short_string s) = dump_byte (ttypetag s) ++ dump_string (some s)
dump_constant (long_string s) = dump_byte (ttypetag s) ++ dump_string (some s)

abbrev pub dump_constants : Prototype → Bytes
dump_constants f = dump_each dump_constant f.constants

abbrev pub dump_upvalue : UpvalueDesc → Bytes
dump_upvalue u = dump_byte u.instack ++ (dump_byte u.idx ++ dump_byte u.kind)

abbrev pub dump_upvalues : Prototype → Bytes
dump_upvalues f = dump_each dump_upvalue f.upvalues

-- dump_function(D, f, psource), of a function f: what it writes, for each `psource`, its parent's source
abbrev pub Dump : Type 0
Dump = Option LuaString → Bytes

-- for (i = 0; i < n; i++) dump_function(D, f->p[i], f->source)
abbrev pub dump_protos : Prototype → List Dump → Bytes
dump_protos f p = dump_int f.protos ++ flatten (map (λ (dump : Dump). dump f.source_name) p)

abbrev pub dump_abs_line_info : AbsLineInfo → Bytes
dump_abs_line_info a = dump_int a.pc ++ dump_int a.line

-- f->locvars[i].varname: where it is NULL our reading shows `?`. (A name that is `?` in the file is taken for NULL here. The compiler makes none.)
abbrev pub varname : LocalVar → Option LuaString
varname l = cond (same_bytes l.name.bytes (63 ∷ [])) none (some l.name)

abbrev pub dump_loc_var : LocalVar → Bytes
dump_loc_var l = dump_string (varname l) ++ (dump_int l.startpc ++ dump_int l.endpc)

-- n = f->sizeupvalues names, `f->upvalues[i].name`: those that were loaded, NULL for the others
abbrev pub upvalue_names : ℕ → List (Option LuaString) → List (Option LuaString)
upvalue_names zero names = []
upvalue_names (suc n) [] = none ∷ upvalue_names n []
upvalue_names (suc n) (name ∷ names) = name ∷ upvalue_names n names

-- n = (D->strip) ? 0 : ..: the items that are dumped
abbrev pub unless_stripped : {A : Type 0} → Bool → List A → List A
unless_stripped strip xs = cond strip [] xs

abbrev pub dump_debug : Bool → Prototype → Bytes
dump_debug strip f =
    dump_int (length (unless_stripped strip f.line_info_lem))
    ++ (unless_stripped strip f.line_info_lem
    ++ (dump_each dump_abs_line_info (unless_stripped strip f.abs_line_info)
    ++ (dump_each dump_loc_var (unless_stripped strip f.loc_vars)
    ++ dump_each dump_string (unless_stripped strip (upvalue_names (length f.upvalues) f.upvalue_names_lem)))))

-- Strings of equal bytes are one object where they are short (`luaS_newlstr`), and where they are long and were once in the file (`luaS_createlngstrobj`): there, at the same place
abbrev pub object : LuaString → ℕ
object s = cond (is_short s) 0 s.place

-- f->source == psource: both NULL, or one object. A source that was absent is the parent's (`loadFunction`), in our reading with its place
abbrev pub same_source : Option LuaString → Option LuaString → Bool
same_source none none = true
same_source none (some t) = false
same_source (some s) none = false
same_source (some s) (some t) = same_bytes s.bytes t.bytes && eqb (object s) (object t)

-- if (D->strip || f->source == psource) dump_string(D, NULL); else dump_string(D, f->source)
abbrev pub dump_source : Bool → Option LuaString → Option LuaString → Bytes
dump_source strip source psource = cond (strip || same_source source psource) (dump_string none) (dump_string source)

-- f, and what is nested in it, f->p
unfoldable pub dump_function : Bool → Prototype → List Dump → Dump
dump_function strip f p psource =
    dump_source strip f.source_name psource
    ++ (dump_int f.line_defined
    ++ (dump_int f.last_line_defined
    ++ (dump_byte f.numparams
    ++ (dump_byte f.is_vararg
    ++ (dump_byte f.maxstacksize
    ++ (dump_code f
    ++ (dump_constants f
    ++ (dump_upvalues f
    ++ (dump_protos f p
    ++ dump_debug strip f)))))))))

-- The list of functions is gone through from the last to the first: the f->p of each are as many of those behind it as nest in it.
abbrev pub dump_nested : Bool → Prototype → List Dump → List Dump
dump_nested strip f later = dump_function strip f (take f.protos later) ∷ drop f.protos later

-- LUA_SIGNATURE, LUAC_VERSION, LUAC_FORMAT, LUAC_DATA, sizeof(Instruction), sizeof(lua_Integer), sizeof(lua_Number), LUAC_INT, LUAC_NUM (370.5)
abbrev pub dump_header : Bytes
dump_header =
    signature
    ++ (dump_byte (5 * 16 + 4)
    ++ (dump_byte 0
    ++ (luac_data
    ++ (dump_byte 4
    ++ (dump_byte 8
    ++ (dump_byte 8
    ++ (dump_integer 0x5678
    ++ dump_number 0x4077280000000000)))))))

-- dump_header(&D); dump_byte(&D, f->sizeupvalues); dump_function(&D, f, NULL): of main and all functions nested in it. (There is a main in every chunk)
unfoldable pub lua_u_dump : Bool → List Prototype → Bytes
lua_u_dump strip [] = []
lua_u_dump strip (f ∷ nested) = dump_header ++ (dump_byte (length f.upvalues) ++ dump_function strip f (foldr (dump_nested strip) [] nested) none)
