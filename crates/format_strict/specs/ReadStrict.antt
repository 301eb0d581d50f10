-- The stricter reading (02, item 7) as a function from limits and bytes to a reading or a refusal: as crates/format/specs/ReadChunk.antt, with every refusal and place, and besides
--     31   a format byte other than 0, right after that byte
--     32   a number that lundump.c reads as an int, from 2^31 - 128 on, when it is complete: before anything is made of it. (Cut short it is 1, and from 2^64 - 128 on 3: both are found earlier.)
--     33   a string constant of size 0, right after the size
use Rattle.std.specs.Prelude.{true, false, cond, List, [], ◌∷◌, ℕ, zero, suc, ◌+◌, ◌-◌, ◌^◌, eqb, leb, ltb, length}
use Rattle.std.proofs.Math.Option.{Option, none, some}
use Rattle.format.specs.declared.limits.ResourceLimits.{ResourceLimits}
use Rattle.format.specs.declared.refusal.Refusal.{Refusal}
use Rattle.format.specs.declared.refusal.Refusal.TheVariants.{
  ConstantTag,
  Instructions,
  TotalInstructions,
  Constants,
  Upvalues,
  Prototypes,
  NestingDepth,
  TotalPrototypes,
  LimitAboveCeiling,
  InputBytes,
  Format,
  IntOverflow,
  NullString,
}
use Rattle.format.specs.declared.entry.AbsLineInfo.{AbsLineInfo}
use Rattle.format.specs.Form.{Bytes}
use Rattle.format.specs.GrammarFields.{LuaString}
use Rattle.format.specs.GrammarHeader.{Headed, header_of}
use Rattle.format.specs.Limits.{within_ceilings}
use Rattle.format.specs.Reading.{ConstantValue, nil, boolean, integer, float, short_string, long_string, LocalVar, Prototype}
use Rattle.format.specs.GrammarChunk.{Listed, inherit, Where, within, prototype, outermost, Loaded}
use Rattle.format.specs.Read.{Reader, ◌>>=◌, ◌>>◌, give, here, refuse, test, at_most, run, many}
use Rattle.format.specs.ReadFields.{field, byte, number, string}
use Rattle.format.specs.ReadHeader.{expect, before_format, behind_format}
use Rattle.format.specs.ReadChunk.{always, upvalue, forest, Outcome, refusal, outcome}

abbrev pub int : Reader ℕ
int = do
  first ← here
  n ← number
  test (ltb n (2 ^ 31 - 128)) (IntOverflow first)
  give n

-- ## Lists behind their counts
abbrev pub strict_counted : {A : Type 0} → Reader A → Reader (Listed A)
strict_counted r = do
  n ← int
  place ← here
  items ← many n r
  give (record { place = place; items = items })

abbrev pub strict_counted_up_to : {A : Type 0} → ℕ → (ℕ → Refusal) → Reader A → Reader (Listed A)
strict_counted_up_to limit above r = do
  first ← here
  n ← int
  at_most n limit (above first)
  place ← here
  items ← many n r
  give (record { place = place; items = items })

-- ## Entries
abbrev pub there : ℕ → Option LuaString → Reader LuaString
there first none = refuse (NullString first)
there first (some t) = give t

abbrev pub present : ℕ → Reader LuaString
present limit = do
  first ← here
  t ← string limit
  there first t

-- behind a tag that stands at `place`
abbrev pub strict_tagged : ℕ → ℕ → ℕ → Reader ConstantValue
strict_tagged limit place tag =
    cond (eqb tag 0) (give nil)
    (cond (eqb tag 1) (give (boolean false))
    (cond (eqb tag 17) (give (boolean true))
    (cond (eqb tag 3) (do
      n ← field 8
      give (integer n))
    (cond (eqb tag 19) (do
      n ← field 8
      give (float n))
    (cond (eqb tag 4) (do
      t ← present limit
      give (short_string t))
    (cond (eqb tag 20) (do
      t ← present limit
      give (long_string t))
    (refuse (ConstantTag place))))))))

abbrev pub strict_constant : ℕ → Reader ConstantValue
strict_constant limit = do
  place ← here
  tag ← byte
  strict_tagged limit place tag

abbrev pub strict_anchor : Reader AbsLineInfo
strict_anchor = do
  pc ← int
  line ← int
  give (record { pc = pc; line = line })

abbrev pub strict_local : ℕ → Reader LocalVar
strict_local limit = do
  name ← always limit (63 ∷ [])
  startpc ← int
  endpc ← int
  give (record { name = name; startpc = startpc; endpc = endpc })

-- ## Functions
unfoldable pub strict_body : ResourceLimits → (Where → Reader (List Prototype)) → Where → Reader (List Prototype)
strict_body L r w = do
  start ← here
  spelt ← string L.max_string_bytes
  line_defined ← int
  last_line_defined ← int
  numparams ← byte
  is_vararg ← byte
  maxstacksize ← byte
  first ← here
  size ← int
  at_most size L.max_instructions_per_proto (Instructions first)
  at_most (w.instructions + size) L.max_total_instructions (TotalInstructions first)
  instructions_at ← here
  instructions ← many size (field 4)
  constants ← strict_counted_up_to L.max_constants_per_proto Constants (strict_constant L.max_string_bytes)
  upvalues ← strict_counted_up_to L.max_upvalues_per_proto Upvalues upvalue
  first ← here
  protos ← int
  at_most protos L.max_total_prototypes (Prototypes first)
  protos-at ← here
  nested ← forest protos r (within w (inherit spelt w.source) (length instructions))
  line-info-size ← int
  line-info-at ← here
  line_info_lem ← run line-info-size
  abs_line_info ← strict_counted strict_anchor
  loc_vars ← strict_counted (strict_local L.max_string_bytes)
  upvalue_names_lem ← strict_counted (string L.max_string_bytes)
  end ← here
  give (prototype w start spelt line_defined last_line_defined numparams is_vararg maxstacksize (record { place = instructions_at; items = instructions }) constants upvalues protos-at protos (record { place = line-info-at; items = line_info_lem }) abs_line_info loc_vars upvalue_names_lem end ∷ nested)

unfoldable pub strict_function : ResourceLimits → ℕ → Where → Reader (List Prototype)
strict_function L zero = strict_body L (λ w. do
  place ← here
  refuse (NestingDepth place))
strict_function L (suc left) = strict_body L (λ w. do
  place ← here
  at_most w.number L.max_total_prototypes (TotalPrototypes place)
  strict_function L left w)

-- ## Chunks
abbrev pub strict_header : Reader Headed
strict_header = do
  before_format
  expect (0 ∷ []) Format
  behind_format
  give (record { header = header_of 0; warnings = [] })

abbrev pub strict_main : ResourceLimits → Reader Loaded
strict_main L = do
  headed ← strict_header
  forgotten ← byte
  functions ← strict_function L L.max_nesting_depth outermost
  give (record { headed = headed; functions = functions })

-- 21 and 22 first
unfoldable pub strict_read : ResourceLimits → Bytes → Outcome
strict_read L chunk = cond (within_ceilings L) (cond (leb (length chunk) L.max_input_bytes) (outcome L (strict_main L 0 chunk)) (refusal InputBytes)) (refusal LimitAboveCeiling)
