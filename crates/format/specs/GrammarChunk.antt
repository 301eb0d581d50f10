-- The grammar of a chunk (01 'The grammar', 'chunk.rs'), and what the bytes spell. `L` are the limits, tested where the Rust tests them.
-- Each production names the function of lundump.c that loads it (crates/format_lua/specs/LundumpFunctions.antt) and says how 01 makes it differ.
use Rattle.std.specs.Prelude.{◌≡◌, Bool, true, false, List, [], ◌∷◌, ◌++◌, ℕ, zero, suc, ◌+◌, ◌≤◌, eqb, length, take}
use Rattle.std.proofs.Math.Option.{Option, none, some, get_or}
use Rattle.format.specs.declared.limits.ResourceLimits.{ResourceLimits}
use Rattle.format.specs.declared.header.Warning.{Warning}
use Rattle.format.specs.declared.header.Warning.TheVariants.{TrailingBytes}
use Rattle.format.specs.declared.entry.UpvalueDesc.{UpvalueDesc}
use Rattle.format.specs.declared.entry.AbsLineInfo.{AbsLineInfo}
use Rattle.format.specs.Form.{Bytes, Form, Then, ◌>>=◌, ◌>>◌, Is, Here, Given, Nothing, When, Run, Many}
use Rattle.format.specs.GrammarFields.{Field, Byte, Number, LuaString, String}
use Rattle.format.specs.GrammarHeader.{Headed, Header}
use Rattle.format.specs.Reading.{ConstantValue, nil, boolean, integer, float, short_string, long_string, LocalVar, Places, Prototype, Reading}

-- ## Lists behind their counts
-- the place of the first item, and the items
pub record Listed (A : Type 0) : Type 0 where
  pub place : ℕ
  pub items : List A

abbrev pub Counted : {A : Type 0} → Form A → Form (Listed A)
Counted F = do
  n ← Number
  place ← Here
  items ← Many n F
  Is (record { place = place; items = items })

abbrev pub CountedUpTo : {A : Type 0} → ℕ → Form A → Form (Listed A)
CountedUpTo limit F = do
  n ← Number
  Given (n ≤ limit)
  place ← Here
  items ← Many n F
  Is (record { place = place; items = items })

-- ## Entries
-- a string that is never absent: an absent one reads as `instead`, at the place behind its size
abbrev pub Always : ℕ → Bytes → Form LuaString
Always limit instead = do
  t ← String limit
  place ← Here
  Is (get_or t (record { place = place; bytes = instead }))

-- a constant behind its tag. `loadConstants`; a string of size 0, which that refuses, reads as empty
abbrev pub Tagged : ℕ → ℕ → Form ConstantValue
Tagged limit tag =
    When (eqb tag 0) (Is nil)
    (When (eqb tag 1) (Is (boolean false))
    (When (eqb tag 17) (Is (boolean true))
    (When (eqb tag 3) (do
      n ← Field 8
      Is (integer n))
    (When (eqb tag 19) (do
      n ← Field 8
      Is (float n))
    (When (eqb tag 4) (do
      t ← Always limit []
      Is (short_string t))
    (When (eqb tag 20) (do
      t ← Always limit []
      Is (long_string t))
    Nothing))))))

abbrev pub Constant : ℕ → Form ConstantValue
Constant limit = do
  tag ← Byte
  Tagged limit tag

-- `loadUpvalues`
abbrev pub Upvalue : Form UpvalueDesc
Upvalue = do
  instack ← Byte
  idx ← Byte
  kind ← Byte
  Is (record { instack = instack; idx = idx; kind = kind })

-- an anchor, a local variable. `loadDebug`; its numbers are ints there; an absent local name reads as `?`
abbrev pub Anchor : Form AbsLineInfo
Anchor = do
  pc ← Number
  line ← Number
  Is (record { pc = pc; line = line })

abbrev pub Local : ℕ → Form LocalVar
Local limit = do
  name ← Always limit (63 ∷ [])
  startpc ← Number
  endpc ← Number
  Is (record { name = name; startpc = startpc; endpc = endpc })

-- ## Functions
-- an absent source reads as the parent's, with its place. `loadFunction` does so with `psource`
abbrev pub inherit : Option LuaString → Option LuaString → Option LuaString
inherit none parent = parent
inherit (some t) parent = some t

abbrev pub instructions_of : List Prototype → ℕ
instructions_of [] = 0
instructions_of (p ∷ ps) = length p.instructions + instructions_of ps

-- where a function stands: its number, the instructions of all functions before it, its depth, its parent's number and source
pub record Where : Type 0 where
  pub number : ℕ
  pub instructions : ℕ
  pub depth : ℕ
  pub parent : ℕ
  pub source : Option LuaString

-- where the next function stands, behind this one with all that nests in it
abbrev pub after : List Prototype → Where → Where
after ps w = record { number = w.number + length ps; instructions = w.instructions + instructions_of ps; depth = w.depth; parent = w.parent; source = w.source }

-- where the first function stands that nests in w's, which has this source and so many instructions
abbrev pub within : Where → Option LuaString → ℕ → Where
within w source instructions = record { number = w.number + 1; instructions = w.instructions + instructions; depth = w.depth + 1; parent = w.number; source = source }

-- n functions one after the other. `loadProtos`
abbrev pub Forest : ℕ → (Where → Form (List Prototype)) → Where → Form (List Prototype)
Forest zero F w = Is []
Forest (suc n) F w = do
  ps ← F w
  more ← Forest n F (after ps w)
  Is (ps ++ more)

-- the function of its parts, in the order of their bytes, with where it ends: for the grammar, the reader and Lua's loader
module _
    (w : Where) (start : ℕ) (spelt : Option LuaString) (line_defined last_line_defined numparams is_vararg maxstacksize : ℕ)
    (instructions : Listed ℕ) (constants : Listed ConstantValue) (upvalues : Listed UpvalueDesc) (protos-at protos : ℕ)
    (line_info_lem : Listed ℕ) (abs_line_info : Listed AbsLineInfo) (loc_vars : Listed LocalVar) (upvalue_names_lem : Listed (Option LuaString)) (end : ℕ) where
  abbrev pub prototype : Prototype
  prototype = record {
    depth = w.depth;
    parent = w.parent;
    start = start;
    end = end;
    source_name = inherit spelt w.source;
    line_defined = line_defined;
    last_line_defined = last_line_defined;
    numparams = numparams;
    is_vararg = is_vararg;
    maxstacksize = maxstacksize;
    instructions = instructions.items;
    constants = constants.items;
    upvalues = upvalues.items;
    protos = protos;
    line_info_lem = line_info_lem.items;
    abs_line_info = abs_line_info.items;
    loc_vars = loc_vars.items;
    upvalue_names_lem = upvalue_names_lem.items;
    places = record {
      instructions = instructions.place;
      constants = constants.place;
      upvalues = upvalues.place;
      protos = protos-at;
      line_info_lem = line_info_lem.place;
      abs_line_info = abs_line_info.place;
      loc_vars = loc_vars.place;
      upvalue_names_lem = upvalue_names_lem.place;
    };
  }

-- a function and all that nest in it, where F is the form of one that nests directly in it. `loadFunction`, whose numbers are ints
unfoldable pub Body : ResourceLimits → (Where → Form (List Prototype)) → Where → Form (List Prototype)
Body L F w = do
  start ← Here
  spelt ← String L.max_string_bytes
  line_defined ← Number
  last_line_defined ← Number
  numparams ← Byte
  is_vararg ← Byte
  maxstacksize ← Byte
  size ← Number
  Given (size ≤ L.max_instructions_per_proto)
  Given (w.instructions + size ≤ L.max_total_instructions)
  instructions_at ← Here
  instructions ← Many size (Field 4)
  constants ← CountedUpTo L.max_constants_per_proto (Constant L.max_string_bytes)
  upvalues ← CountedUpTo L.max_upvalues_per_proto Upvalue
  protos ← Number
  Given (protos ≤ L.max_total_prototypes)
  protos-at ← Here
  nested ← Forest protos F (within w (inherit spelt w.source) (length instructions))
  line-info-size ← Number
  line-info-at ← Here
  line_info_lem ← Run line-info-size
  abs_line_info ← Counted Anchor
  loc_vars ← Counted (Local L.max_string_bytes)
  upvalue_names_lem ← Counted (String L.max_string_bytes)
  end ← Here
  Is (prototype w start spelt line_defined last_line_defined numparams is_vararg maxstacksize (record { place = instructions_at; items = instructions }) constants upvalues protos-at protos (record { place = line-info-at; items = line_info_lem }) abs_line_info loc_vars upvalue_names_lem end ∷ nested)

-- a function below which functions nest at most `left` deep. The nested function with the number k is the k-th, and k is at most the limit of nested functions
unfoldable pub Function : ResourceLimits → ℕ → Where → Form (List Prototype)
Function L zero = Body L (λ w. Nothing)
Function L (suc left) = Body L (λ w. do
  Given (w.number ≤ L.max_total_prototypes)
  Function L left w)

-- ## Chunks
-- all but the trailing bytes
pub record Loaded : Type 0 where
  pub headed : Headed
  pub functions : List Prototype

abbrev pub outermost : Where
outermost = record { number = 0; instructions = 0; depth = 0; parent = 0; source = none }

-- `luaU_undump`; the byte behind the header, the number of main's upvalues there, is forgotten
abbrev pub Main : ResourceLimits → Form Loaded
Main L = do
  headed ← Header
  forgotten ← Byte
  functions ← Function L L.max_nesting_depth outermost
  Is (record { headed = headed; functions = functions })

-- trailing bytes, where there are any, are a warning
abbrev pub trailing_warnings : ℕ → Bytes → List Warning
trailing_warnings place [] = []
trailing_warnings place (b ∷ bs) = TrailingBytes place ∷ []

-- the reading: warnings beyond the diagnostics limit are dropped
abbrev pub reading : ResourceLimits → Loaded → ℕ → Bytes → Reading
reading L m place trailing = record {
  header = m.headed.header;
  warnings = take L.max_diagnostics (m.headed.warnings ++ trailing_warnings place trailing);
  functions = m.functions;
  trailing_at = place;
  trailing = trailing;
}

-- the bytes belong under the limits to the grammar, and spell the reading r
pub record Chunk (L : ResourceLimits) (chunk : Bytes) (r : Reading) : Type 0 where
  pub front : Bytes
  pub trailing : Bytes
  pub whole : chunk ≡ front ++ trailing
  pub value : Loaded
  pub main : Main L 0 front value
  pub shows : reading L value (length front) trailing ≡ r
