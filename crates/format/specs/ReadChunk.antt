-- chunk.rs, decoding, as a function from limits and bytes to a reading or a refusal: the Rust's order, with every refusal and place.
use Rattle.std.specs.Prelude.{Bool, true, false, cond, List, [], ◌∷◌, ◌++◌, ℕ, zero, suc, ◌+◌, eqb, leb, length}
use Rattle.std.proofs.Math.Option.{Option, none, some, get_or}
use Rattle.format.specs.declared.limits.ResourceLimits.{ResourceLimits}
use Rattle.format.specs.declared.refusal.Refusal.{Refusal}
use Rattle.format.specs.declared.refusal.Refusal.TheVariants.{
  ConstantTag,
  Instructions,
  TotalInstructions,
  Constants,
  Upvalues,
  Prototypes,
  NestingDepth,
  TotalPrototypes,
  LimitAboveCeiling,
  InputBytes,
}
use Rattle.format.specs.declared.entry.UpvalueDesc.{UpvalueDesc}
use Rattle.format.specs.declared.entry.AbsLineInfo.{AbsLineInfo}
use Rattle.format.specs.Form.{Bytes}
use Rattle.format.specs.GrammarFields.{LuaString}
use Rattle.format.specs.Limits.{within_ceilings}
use Rattle.format.specs.Reading.{ConstantValue, nil, boolean, integer, float, short_string, long_string, LocalVar, Places, Prototype, Reading}
use Rattle.format.specs.GrammarChunk.{Listed, inherit, Where, after, within, prototype, outermost, Loaded, reading}
use Rattle.format.specs.Read.{Read, ok, refused, Reader, next, ◌>>=◌, ◌>>◌, give, here, refuse, at_most, run, many}
use Rattle.format.specs.ReadFields.{field, byte, number, string}
use Rattle.format.specs.ReadHeader.{header}

-- ## Lists behind their counts
abbrev pub counted : {A : Type 0} → Reader A → Reader (Listed A)
counted r = do
  n ← number
  place ← here
  items ← many n r
  give (record { place = place; items = items })

-- a count above the limit is refused, at its first byte, before the items are looked for
abbrev pub counted_up_to : {A : Type 0} → ℕ → (ℕ → Refusal) → Reader A → Reader (Listed A)
counted_up_to limit refusal r = do
  first ← here
  n ← number
  at_most n limit (refusal first)
  place ← here
  items ← many n r
  give (record { place = place; items = items })

-- ## Entries
abbrev pub always : ℕ → Bytes → Reader LuaString
always limit instead = do
  t ← string limit
  place ← here
  give (get_or t (record { place = place; bytes = instead }))

-- behind a tag that stands at `place`
abbrev pub tagged : ℕ → ℕ → ℕ → Reader ConstantValue
tagged limit place tag =
    cond (eqb tag 0) (give nil)
    (cond (eqb tag 1) (give (boolean false))
    (cond (eqb tag 17) (give (boolean true))
    (cond (eqb tag 3) (do
      n ← field 8
      give (integer n))
    (cond (eqb tag 19) (do
      n ← field 8
      give (float n))
    (cond (eqb tag 4) (do
      t ← always limit []
      give (short_string t))
    (cond (eqb tag 20) (do
      t ← always limit []
      give (long_string t))
    (refuse (ConstantTag place))))))))

abbrev pub constant : ℕ → Reader ConstantValue
constant limit = do
  place ← here
  tag ← byte
  tagged limit place tag

abbrev pub upvalue : Reader UpvalueDesc
upvalue = do
  instack ← byte
  idx ← byte
  kind ← byte
  give (record { instack = instack; idx = idx; kind = kind })

abbrev pub anchor : Reader AbsLineInfo
anchor = do
  pc ← number
  line ← number
  give (record { pc = pc; line = line })

abbrev pub local : ℕ → Reader LocalVar
local limit = do
  name ← always limit (63 ∷ [])
  startpc ← number
  endpc ← number
  give (record { name = name; startpc = startpc; endpc = endpc })

-- ## Functions
abbrev pub forest : ℕ → (Where → Reader (List Prototype)) → Where → Reader (List Prototype)
forest zero r w = give []
forest (suc n) r w = do
  ps ← r w
  more ← forest n r (after ps w)
  give (ps ++ more)

unfoldable pub body : ResourceLimits → (Where → Reader (List Prototype)) → Where → Reader (List Prototype)
body L r w = do
  start ← here
  spelt ← string L.max_string_bytes
  line_defined ← number
  last_line_defined ← number
  numparams ← byte
  is_vararg ← byte
  maxstacksize ← byte
  first ← here
  size ← number
  at_most size L.max_instructions_per_proto (Instructions first)
  at_most (w.instructions + size) L.max_total_instructions (TotalInstructions first)
  instructions_at ← here
  instructions ← many size (field 4)
  constants ← counted_up_to L.max_constants_per_proto Constants (constant L.max_string_bytes)
  upvalues ← counted_up_to L.max_upvalues_per_proto Upvalues upvalue
  first ← here
  protos ← number
  at_most protos L.max_total_prototypes (Prototypes first)
  protos-at ← here
  nested ← forest protos r (within w (inherit spelt w.source) (length instructions))
  line-info-size ← number
  line-info-at ← here
  line_info_lem ← run line-info-size
  abs_line_info ← counted anchor
  loc_vars ← counted (local L.max_string_bytes)
  upvalue_names_lem ← counted (string L.max_string_bytes)
  end ← here
  give (prototype w start spelt line_defined last_line_defined numparams is_vararg maxstacksize (record { place = instructions_at; items = instructions }) constants upvalues protos-at protos (record { place = line-info-at; items = line_info_lem }) abs_line_info loc_vars upvalue_names_lem end ∷ nested)

-- `enter_proto`: at the place where a nested function begins, first whether it is too deep, then whether it is one too many
unfoldable pub function : ResourceLimits → ℕ → Where → Reader (List Prototype)
function L zero = body L (λ w. do
  place ← here
  refuse (NestingDepth place))
function L (suc left) = body L (λ w. do
  place ← here
  at_most w.number L.max_total_prototypes (TotalPrototypes place)
  function L left w)

-- ## Chunks
abbrev pub main : ResourceLimits → Reader Loaded
main L = do
  headed ← header
  forgotten ← byte
  functions ← function L L.max_nesting_depth outermost
  give (record { headed = headed; functions = functions })

pub data Outcome : Type 0 where
  shown : Reading → Outcome
  refusal : Refusal → Outcome

abbrev pub outcome : ResourceLimits → Read Loaded → Outcome
outcome L (ok m place trailing) = shown (reading L m place trailing)
outcome L (refused q) = refusal q

-- 21 and 22 first
unfoldable pub read : ResourceLimits → Bytes → Outcome
read L chunk = cond (within_ceilings L) (cond (leb (length chunk) L.max_input_bytes) (outcome L (main L 0 chunk)) (refusal InputBytes)) (refusal LimitAboveCeiling)
