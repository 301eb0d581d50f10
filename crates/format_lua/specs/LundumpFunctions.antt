-- From lundump.c (Lua 5.4.4), close to the text: the order and the parts in which Lua's own loader takes a chunk. A form is the bytes that a C function takes, and
-- what it makes of them; it has the function's name. A Proto is shown as our `Prototype`, and a tree of them as the list of its functions.
-- These names are ours: Content, NotNull (a test for NULL), LoadCounted (a count and a loop), LoadTagged (a switch), Debug (what `loadDebug` stores), and, for one turn of a
-- loop, LoadConstant, LoadUpvalue, LoadAbsLineInfo, LoadVarName, LoadLocVar. At each stand the lines of C that it is for. `Field 8` is `loadInteger` and `loadNumber`;
-- `Spelt` is `checkliteral`, and a byte or a number that is loaded and compared.
-- Bytes of a word or a number are in the order of a little-endian machine: C copies them as they lie in memory (`loadVector`).
-- Where 01 makes ours differ is said at each. What `Undump` takes, our grammar takes, with the same value, where that is within the limits: `proofs/LundumpChunk.antt`. The stricter grammar takes exactly that: `proofs/StrictLoaded.antt`.
-- Not here: memory (what a loader allocates, or writes behind an array's end), and what happens at a tag that is none (`lua_assert(0)`).
use Rattle.std.specs.Prelude.{◌≡◌, true, false, List, [], ◌∷◌, ◌++◌, ℕ, zero, suc, eqb, length}
use Rattle.std.proofs.Math.Option.{Option, none, some, get_or}
use Rattle.format.specs.declared.entry.UpvalueDesc.{UpvalueDesc}
use Rattle.format.specs.declared.entry.AbsLineInfo.{AbsLineInfo}
use Rattle.format.specs.Form.{Bytes, Below, Form, ◌>>=◌, ◌>>◌, Is, Here, Spelt, Nothing, When, Run, Many}
use Rattle.format.specs.GrammarFields.{Field, LuaString}
use Rattle.format.specs.GrammarHeader.{Headed, signature, luac_data, luac_int, luac_num, header_of}
use Rattle.format.specs.Reading.{ConstantValue, nil, boolean, integer, float, short_string, long_string, LocalVar, Prototype}
use Rattle.format.specs.GrammarChunk.{Listed, inherit, Where, after, within, prototype, Loaded, outermost}
use Rattle.format_lua.specs.Lundump.{loaded, load_size, load_int}

-- the bytes that `loadSize` and `loadInt` take to the last. Ours is a number for both: an int is below 2^31 - 128 here
abbrev pub LoadSize : Form ℕ
LoadSize at bytes v = Below 256 bytes × (load_size bytes ≡ loaded v [])

abbrev pub LoadInt : Form ℕ
LoadInt at bytes v = Below 256 bytes × (load_int bytes ≡ loaded v [])

abbrev pub LoadByte : Form ℕ
LoadByte = Field 1

-- if (size == 0) return NULL; else if (--size <= LUAI_MAXSHORTLEN) .. loadVector(S, buff, size) .. else .. loadVector(S, getstr(ts), size): size bytes either way
abbrev pub Content : ℕ → Form (Option LuaString)
Content zero = Is none
Content (suc size) = do
  place ← Here
  bytes ← Run size
  Is (some (record { place = place; bytes = bytes }))

abbrev pub LoadStringN : Form (Option LuaString)
LoadStringN = do
  size ← LoadSize
  Content size

-- if (st == NULL) error(S, "bad format for constant string"): ours reads it as empty
abbrev pub NotNull : Option LuaString → Form LuaString
NotNull none = Nothing
NotNull (some t) = Is t

abbrev pub LoadString : Form LuaString
LoadString = do
  st ← LoadStringN
  NotNull st

-- int n = load_int(S); .. for (i = 0; i < n; i++) .., or loadVector(S, .., n): in `loadCode`, `loadConstants`, `loadUpvalues` and three times in `loadDebug`
abbrev pub LoadCounted : {A : Type 0} → Form A → Form (Listed A)
LoadCounted F = do
  n ← LoadInt
  place ← Here
  items ← Many n F
  Is (record { place = place; items = items })

abbrev pub LoadCode : Form (Listed ℕ)
LoadCode = LoadCounted (Field 4)

-- The strings are told apart by their tag, as ours; C has one case for both, and keeps a string short or long by its length.
-- switch (t): LUA_VNIL 0, LUA_VFALSE 1, LUA_VTRUE 17, LUA_VNUMINT 3, LUA_VNUMFLT 19, LUA_VSHRSTR 4, LUA_VLNGSTR 20
abbrev pub LoadTagged : ℕ → Form ConstantValue
LoadTagged t =
    When (eqb t 0) (Is nil)
    (When (eqb t 1) (Is (boolean false))
    (When (eqb t 17) (Is (boolean true))
    (When (eqb t 3) (do
      n ← Field 8
      Is (integer n))
    (When (eqb t 19) (do
      n ← Field 8
      Is (float n))
    (When (eqb t 4) (do
      st ← LoadString
      Is (short_string st))
    (When (eqb t 20) (do
      st ← LoadString
      Is (long_string st))
    Nothing))))))

-- int t = loadByte(S); switch (t) ..
abbrev pub LoadConstant : Form ConstantValue
LoadConstant = do
  t ← LoadByte
  LoadTagged t

abbrev pub LoadConstants : Form (Listed ConstantValue)
LoadConstants = LoadCounted LoadConstant

-- f->upvalues[i].instack = loadByte(S); .idx, .kind
abbrev pub LoadUpvalue : Form UpvalueDesc
LoadUpvalue = do
  instack ← LoadByte
  idx ← LoadByte
  kind ← LoadByte
  Is (record { instack = instack; idx = idx; kind = kind })

abbrev pub LoadUpvalues : Form (Listed UpvalueDesc)
LoadUpvalues = LoadCounted LoadUpvalue

-- for (i = 0; i < n; i++) .. loadFunction(S, f->p[i], f->source). The count, with which `loadProtos` begins, is loaded in `LoadFunction` here
abbrev pub LoadProtos : ℕ → (Where → Form (List Prototype)) → Where → Form (List Prototype)
LoadProtos zero F w = Is []
LoadProtos (suc n) F w = do
  ps ← F w
  more ← LoadProtos n F (after ps w)
  Is (ps ++ more)

-- f->abslineinfo[i].pc = load_int(S); .line
abbrev pub LoadAbsLineInfo : Form AbsLineInfo
LoadAbsLineInfo = do
  pc ← LoadInt
  line ← LoadInt
  Is (record { pc = pc; line = line })

-- f->locvars[i].varname = loadStringN(S, f): NULL is shown as `?`, as ours
abbrev pub LoadVarName : Form LuaString
LoadVarName = do
  varname ← LoadStringN
  place ← Here
  Is (get_or varname (record { place = place; bytes = 63 ∷ [] }))

-- and .startpc = load_int(S), .endpc
abbrev pub LoadLocVar : Form LocalVar
LoadLocVar = do
  varname ← LoadVarName
  startpc ← LoadInt
  endpc ← LoadInt
  Is (record { name = varname; startpc = startpc; endpc = endpc })

pub record Debug : Type 0 where
  pub lineinfo_at : ℕ
  pub lineinfo : Bytes
  pub abslineinfo : Listed AbsLineInfo
  pub locvars : Listed LocalVar
  pub upvalue_names_lem : Listed (Option LuaString)

abbrev pub LoadDebug : Form Debug
LoadDebug = do
  n ← LoadInt
  lineinfo_at ← Here
  lineinfo ← Run n
  abslineinfo ← LoadCounted LoadAbsLineInfo
  locvars ← LoadCounted LoadLocVar
  upvalue_names_lem ← LoadCounted LoadStringN
  Is (record { lineinfo_at = lineinfo_at; lineinfo = lineinfo; abslineinfo = abslineinfo; locvars = locvars; upvalue_names_lem = upvalue_names_lem })

-- if (f->source == NULL) f->source = psource. The first argument bounds how deep functions nest, and C has no such bound; `Where` is how we number the functions
unfoldable pub LoadFunction : ℕ → Where → Form (List Prototype)
LoadFunction zero w = Nothing
LoadFunction (suc left) w = do
  start ← Here
  source ← LoadStringN
  linedefined ← LoadInt
  lastlinedefined ← LoadInt
  numparams ← LoadByte
  is_vararg ← LoadByte
  maxstacksize ← LoadByte
  code ← LoadCode
  k ← LoadConstants
  upvalues ← LoadUpvalues
  n ← LoadInt
  protos-at ← Here
  p ← LoadProtos n (LoadFunction left) (within w (inherit source w.source) (length code.items))
  debug ← LoadDebug
  end ← Here
  Is (prototype w start source linedefined lastlinedefined numparams is_vararg maxstacksize code k upvalues protos-at n (record { place = debug.lineinfo_at; items = debug.lineinfo }) debug.abslineinfo debug.locvars debug.upvalue_names_lem end ∷ p)

-- LUA_SIGNATURE, LUAC_VERSION, LUAC_FORMAT, LUAC_DATA, sizes, LUAC_INT, LUAC_NUM. Ours takes any format byte. In C the signature's first byte was read and compared before,
-- by the caller (ldo.c's `f_parser`), and here is checkliteral(S, &LUA_SIGNATURE[1], ..)
abbrev pub CheckHeader : Form Headed
CheckHeader = do
  Spelt signature
  Spelt (0x54 ∷ [])
  Spelt (0 ∷ [])
  Spelt luac_data
  Spelt (4 ∷ [])
  Spelt (8 ∷ [])
  Spelt (8 ∷ [])
  Spelt luac_int
  Spelt luac_num
  Is (record { header = header_of 0; warnings = [] })

-- `luaU_undump`: checkHeader(&S); cl = luaF_newLclosure(L, loadByte(&S)); loadFunction(&S, cl->p, NULL)
abbrev pub Undump : ℕ → Form Loaded
Undump left = do
  headed ← CheckHeader
  nupvalues ← LoadByte
  functions ← LoadFunction left outermost
  Is (record { headed = headed; functions = functions })
