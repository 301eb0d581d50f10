-- The stricter grammar (02, item 7): a chunk as Lua's own loader takes it (lundump.c), and what the bytes spell. `L` are the limits, tested where the ordinary grammar tests them.
-- It differs from the ordinary one (crates/format/specs/GrammarChunk.antt) in three places: the format byte is 0; every number but a string's size is an int, below 2^31 - 128; a string constant is there.
-- Each production names the function of lundump.c that loads it. What does not differ is the ordinary grammar's: fields, numbers, strings, upvalues, the rest of the header, what is shown.
use Rattle.std.specs.Prelude.{◌≡◌, true, false, List, [], ◌∷◌, ◌++◌, ℕ, zero, suc, ◌+◌, ◌-◌, ◌^◌, ◌≤◌, ◌<◌, eqb, length}
use Rattle.std.proofs.Math.Option.{Option, none, some}
use Rattle.format.specs.declared.limits.ResourceLimits.{ResourceLimits}
use Rattle.format.specs.declared.entry.AbsLineInfo.{AbsLineInfo}
use Rattle.format.specs.Form.{Bytes, Form, ◌>>=◌, ◌>>◌, Is, Here, Given, Spelt, Nothing, When, Run, Many}
use Rattle.format.specs.GrammarFields.{Field, Byte, Number, LuaString, String}
use Rattle.format.specs.GrammarHeader.{Headed, header_of, BeforeFormat, BehindFormat}
use Rattle.format.specs.Reading.{ConstantValue, nil, boolean, integer, float, short_string, long_string, LocalVar, Prototype, Reading}
use Rattle.format.specs.GrammarChunk.{Listed, Always, Upvalue, inherit, Where, within, prototype, Forest, Loaded, outermost, reading}

-- ## Ints: numbers that `loadInt` reads. `loadUnsigned` takes a further byte while what it has is below INT_MAX >> 7 = 2^24 - 1; so an int is below (2^24 - 1) * 128. (crates/format_lua: it is so.)
abbrev pub Int : Form ℕ
Int = do
  n ← Number
  Given (n < 2 ^ 31 - 128)
  Is n

-- ## Lists behind their counts, which are ints
abbrev pub StrictCounted : {A : Type 0} → Form A → Form (Listed A)
StrictCounted F = do
  n ← Int
  place ← Here
  items ← Many n F
  Is (record { place = place; items = items })

abbrev pub StrictCountedUpTo : {A : Type 0} → ℕ → Form A → Form (Listed A)
StrictCountedUpTo limit F = do
  n ← Int
  Given (n ≤ limit)
  place ← Here
  items ← Many n F
  Is (record { place = place; items = items })

-- ## Entries
-- a string that is there: `loadString`, which refuses NULL
abbrev pub There : Option LuaString → Form LuaString
There none = Nothing
There (some t) = Is t

abbrev pub Present : ℕ → Form LuaString
Present limit = do
  t ← String limit
  There t

-- a constant behind its tag. `loadConstants`
abbrev pub StrictTagged : ℕ → ℕ → Form ConstantValue
StrictTagged limit tag =
    When (eqb tag 0) (Is nil)
    (When (eqb tag 1) (Is (boolean false))
    (When (eqb tag 17) (Is (boolean true))
    (When (eqb tag 3) (do
      n ← Field 8
      Is (integer n))
    (When (eqb tag 19) (do
      n ← Field 8
      Is (float n))
    (When (eqb tag 4) (do
      t ← Present limit
      Is (short_string t))
    (When (eqb tag 20) (do
      t ← Present limit
      Is (long_string t))
    Nothing))))))

abbrev pub StrictConstant : ℕ → Form ConstantValue
StrictConstant limit = do
  tag ← Byte
  StrictTagged limit tag

-- an anchor, a local variable. `loadDebug`, where a local's name may be absent: it reads as `?`
abbrev pub StrictAnchor : Form AbsLineInfo
StrictAnchor = do
  pc ← Int
  line ← Int
  Is (record { pc = pc; line = line })

abbrev pub StrictLocal : ℕ → Form LocalVar
StrictLocal limit = do
  name ← Always limit (63 ∷ [])
  startpc ← Int
  endpc ← Int
  Is (record { name = name; startpc = startpc; endpc = endpc })

-- ## Functions
-- a function and all that nest in it, where F is the form of one that nests directly in it. `loadFunction`
unfoldable pub StrictBody : ResourceLimits → (Where → Form (List Prototype)) → Where → Form (List Prototype)
StrictBody L F w = do
  start ← Here
  spelt ← String L.max_string_bytes
  line_defined ← Int
  last_line_defined ← Int
  numparams ← Byte
  is_vararg ← Byte
  maxstacksize ← Byte
  size ← Int
  Given (size ≤ L.max_instructions_per_proto)
  Given (w.instructions + size ≤ L.max_total_instructions)
  instructions_at ← Here
  instructions ← Many size (Field 4)
  constants ← StrictCountedUpTo L.max_constants_per_proto (StrictConstant L.max_string_bytes)
  upvalues ← StrictCountedUpTo L.max_upvalues_per_proto Upvalue
  protos ← Int
  Given (protos ≤ L.max_total_prototypes)
  protos-at ← Here
  nested ← Forest protos F (within w (inherit spelt w.source) (length instructions))
  line-info-size ← Int
  line-info-at ← Here
  line_info_lem ← Run line-info-size
  abs_line_info ← StrictCounted StrictAnchor
  loc_vars ← StrictCounted (StrictLocal L.max_string_bytes)
  upvalue_names_lem ← StrictCounted (String L.max_string_bytes)
  end ← Here
  Is (prototype w start spelt line_defined last_line_defined numparams is_vararg maxstacksize (record { place = instructions_at; items = instructions }) constants upvalues protos-at protos (record { place = line-info-at; items = line_info_lem }) abs_line_info loc_vars upvalue_names_lem end ∷ nested)

-- a function below which functions nest at most `left` deep
unfoldable pub StrictFunction : ResourceLimits → ℕ → Where → Form (List Prototype)
StrictFunction L zero = StrictBody L (λ w. Nothing)
StrictFunction L (suc left) = StrictBody L (λ w. do
  Given (w.number ≤ L.max_total_prototypes)
  StrictFunction L left w)

-- ## Chunks
-- `checkHeader`
abbrev pub StrictHeader : Form Headed
StrictHeader = do
  BeforeFormat
  Spelt (0 ∷ [])
  BehindFormat
  Is (record { header = header_of 0; warnings = [] })

-- `luaU_undump`; the byte behind the header is forgotten
abbrev pub StrictMain : ResourceLimits → Form Loaded
StrictMain L = do
  headed ← StrictHeader
  forgotten ← Byte
  functions ← StrictFunction L L.max_nesting_depth outermost
  Is (record { headed = headed; functions = functions })

-- the bytes belong under the limits to the stricter grammar, and spell the reading r. What stands behind main lundump.c does not look at: the trailing bytes
pub record StrictChunk (L : ResourceLimits) (chunk : Bytes) (r : Reading) : Type 0 where
  pub front : Bytes
  pub trailing : Bytes
  pub whole : chunk ≡ front ++ trailing
  pub value : Loaded
  pub main : StrictMain L 0 front value
  pub shows : reading L value (length front) trailing ≡ r
