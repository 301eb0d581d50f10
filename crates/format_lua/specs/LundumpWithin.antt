-- What Lua's own loader makes of a chunk (`Undump`, specs/LundumpFunctions.antt), within our limits: C has none. Not from lundump.c.
--     FunctionWithin L p           a function's depth, each count and each string is within its limit
--     FunctionsWithin L w ps       so is each of these functions, the first of them at w, and so are the totals
--     LoadedWithin L chunk r       Lua loads the front of the chunk, what is loaded is within the limits, and r is what is then shown
use Rattle.std.specs.Prelude.{◌≡◌, List, ◌++◌, ℕ, suc, ◌+◌, ◌≤◌, length}
use Rattle.std.proofs.Math.Option.{Option, none, some}
use Rattle.format.specs.declared.limits.ResourceLimits.{ResourceLimits}
use Rattle.format.specs.Form.{Bytes, All}
use Rattle.format.specs.GrammarFields.{LuaString}
use Rattle.format.specs.Reading.{ConstantValue, nil, boolean, integer, float, short_string, long_string, LocalVar, Prototype, Reading}
use Rattle.format.specs.GrammarChunk.{instructions_of, Where, Loaded, outermost, reading}
use Rattle.format_lua.specs.LundumpFunctions.{Undump}

-- ## Strings and entries, by the limit on strings
-- no longer than the limit
abbrev pub BytesWithin : ℕ → LuaString → Type 0
BytesWithin limit t = length t.bytes ≤ limit

-- if it is there
abbrev pub StringWithin : ℕ → Option LuaString → Type 0
StringWithin limit none = Unit {0}
StringWithin limit (some t) = BytesWithin limit t

abbrev pub ConstantWithin : ℕ → ConstantValue → Type 0
ConstantWithin limit nil = Unit {0}
ConstantWithin limit (boolean x) = Unit {0}
ConstantWithin limit (integer n) = Unit {0}
ConstantWithin limit (float n) = Unit {0}
ConstantWithin limit (short_string t) = BytesWithin limit t
ConstantWithin limit (long_string t) = BytesWithin limit t

-- a name that is NULL is shown as `?`, which is asked to be within the limit too; so 0 is too small a limit for it
abbrev pub LocalWithin : ℕ → LocalVar → Type 0
LocalWithin limit l = BytesWithin limit l.name

-- ## Functions
-- (an absent source reads as the parent's, which is within the limit as the parent's own)
pub record FunctionWithin (L : ResourceLimits) (p : Prototype) : Type 0 where
  pub depth : p.depth ≤ L.max_nesting_depth
  pub source : StringWithin L.max_string_bytes p.source_name
  pub instructions : length p.instructions ≤ L.max_instructions_per_proto
  pub constants : length p.constants ≤ L.max_constants_per_proto
  pub constant_strings : All (ConstantWithin L.max_string_bytes) p.constants
  pub upvalues : length p.upvalues ≤ L.max_upvalues_per_proto
  pub protos : p.protos ≤ L.max_total_prototypes
  pub local_names : All (LocalWithin L.max_string_bytes) p.loc_vars
  pub upvalue_names_lem : All (StringWithin L.max_string_bytes) p.upvalue_names_lem

-- the totals are those of all functions up to the last of these; main is none of the nested ones
pub record FunctionsWithin (L : ResourceLimits) (w : Where) (ps : List Prototype) : Type 0 where
  pub each : All (FunctionWithin L) ps
  pub instructions : w.instructions + instructions_of ps ≤ L.max_total_instructions
  pub functions : w.number + length ps ≤ suc L.max_total_prototypes

-- ## Chunks
-- Lua does not look at what stands behind main. `left` bounds how deep functions nest; C has no such bound, so it is any
pub record LoadedWithin (L : ResourceLimits) (chunk : Bytes) (r : Reading) : Type 0 where
  pub front : Bytes
  pub trailing : Bytes
  pub whole : chunk ≡ front ++ trailing
  pub left : ℕ
  pub value : Loaded
  pub loads : Undump left 0 front value
  pub within : FunctionsWithin L outermost value.functions
  pub shows : reading L value (length front) trailing ≡ r
