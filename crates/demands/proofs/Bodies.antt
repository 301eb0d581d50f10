-- The bodies of both readings, ordinary and stricter, as one: by how numbers, constants, anchors and locals are read. Each
-- is a case of this one, as antt sees by itself; so a law of bodies is proved once (HeaderPlaces.antt, Ample.antt).
-- Assumes nothing.
use mathlib.Core.List.{List, ◌∷◌}
use mathlib.Core.Option.{Option}
use Prim.Native.Nat.{ℕ, ◌+◌}
use lib.ListN.{length}
use Rattle.format.specs.declared.limits.ResourceLimits.{ResourceLimits}
use Rattle.format.specs.declared.refusal.Refusal.TheVariants as q
use Rattle.format.specs.declared.entry.AbsLineInfo.{AbsLineInfo}
use Rattle.format.specs.GrammarFields.{LuaString}
use Rattle.format.specs.Reading.{ConstantValue, LocalVar, Prototype}
use Rattle.format.specs.GrammarChunk.{Listed, inherit, Where, within, prototype}
use Rattle.format.specs.Read.{Reader, ◌>>=◌, ◌>>◌, give, here, at_most, run, many}
use Rattle.format.specs.ReadFields.{field, byte, string}
use Rattle.format.specs.ReadChunk.{upvalue, forest}

abbrev pub body_by : Reader ℕ → Reader ConstantValue → Reader AbsLineInfo → Reader LocalVar → ResourceLimits
    → (Where → Reader (List Prototype)) → Where → Reader (List Prototype)
body_by num con anc loc L r w = do
  start ← here
  spelt ← string L.max_string_bytes
  line_defined ← num
  last_line_defined ← num
  numparams ← byte
  is_vararg ← byte
  maxstacksize ← byte
  first ← here
  size ← num
  at_most size L.max_instructions_per_proto (q.Instructions first)
  at_most (w.instructions + size) L.max_total_instructions (q.TotalInstructions first)
  instructions_at ← here
  instructions ← many size (field 4)
  constants ← here >>= λ first. num >>= λ k. at_most k L.max_constants_per_proto (q.Constants first) >>= λ _. here >>= λ place. many k con >>= λ items. give {A = Listed ConstantValue} (record { place = place; items = items })
  upvalues ← here >>= λ first. num >>= λ k. at_most k L.max_upvalues_per_proto (q.Upvalues first) >>= λ _. here >>= λ place. many k upvalue >>= λ items. give {A = Listed _} (record { place = place; items = items })
  first ← here
  protos ← num
  at_most protos L.max_total_prototypes (q.Prototypes first)
  protos-at ← here
  nested ← forest protos r (within w (inherit spelt w.source) (length instructions))
  line-info-size ← num
  line-info-at ← here
  line_info_lem ← run line-info-size
  abs_line_info ← num >>= λ k. here >>= λ place. many k anc >>= λ items. give {A = Listed AbsLineInfo} (record { place = place; items = items })
  loc_vars ← num >>= λ k. here >>= λ place. many k loc >>= λ items. give {A = Listed LocalVar} (record { place = place; items = items })
  upvalue_names_lem ← num >>= λ k. here >>= λ place. many k (string L.max_string_bytes) >>= λ items. give {A = Listed (Option LuaString)} (record { place = place; items = items })
  end ← here
  give (prototype w start spelt line_defined last_line_defined numparams is_vararg maxstacksize (record { place = instructions_at; items = instructions }) constants upvalues protos-at protos (record { place = line-info-at; items = line_info_lem }) abs_line_info loc_vars upvalue_names_lem end ∷ nested)
