-- What follows a part of a function, by what was read before it: for the chains of crates/strict_entry/proofs/Chains.antt.
-- Assumes nothing.
use mathlib.Core.Option.{Option}
use Prim.Native.Nat.{ℕ}
use Rattle.format.specs.declared.limits.ResourceLimits.{ResourceLimits}
use Rattle.format.specs.declared.refusal.Refusal.TheVariants.{Upvalues}
use Rattle.format.specs.declared.entry.UpvalueDesc.{UpvalueDesc}
use Rattle.format.specs.declared.entry.AbsLineInfo.{AbsLineInfo}
use Rattle.format.specs.GrammarFields.{LuaString}
use Rattle.format.specs.Reading.{ConstantValue, LocalVar}
use Rattle.format.specs.GrammarChunk.{Listed}
use Rattle.format.specs.Read.{Reader, ◌>>=◌, give}
use Rattle.format.specs.ReadFields.{string}
use Rattle.format.specs.ReadChunk.{upvalue}
use Rattle.format_strict.specs.ReadStrict.{int, strict_counted, strict_counted_up_to, strict_anchor, strict_local}
use Rattle.read_prototype.specs.declared.front.Sizes.{Sizes}
use Rattle.read_prototype.specs.Front.{Front, sizes}
use Rattle.read_prototype.specs.Parts.{Tail}

-- ## The front
abbrev pub front_of : Option LuaString → ℕ → ℕ → Sizes → Front
front_of source first last three = record { source = source; lines = record { line_defined = first; last_line_defined = last }; sizes = three }

abbrev pub behind_last : Option LuaString → ℕ → ℕ → Reader Front
behind_last source first last = sizes >>= λ three. give (front_of source first last three)

abbrev pub behind_first : Option LuaString → ℕ → Reader Front
behind_first source first = int >>= behind_last source first

abbrev pub behind_source : Option LuaString → Reader Front
behind_source source = int >>= behind_first source

-- ## Constants and upvalues
abbrev pub behind_constants : ResourceLimits → Listed ConstantValue → Reader (Listed ConstantValue × Listed UpvalueDesc)
behind_constants L constants = strict_counted_up_to L.max_upvalues_per_proto Upvalues upvalue >>= λ upvalues. give (constants, upvalues)

-- ## The tail
module _ (limit : ℕ) where
  abbrev pub tail_of : Listed ℕ → Listed AbsLineInfo → Listed LocalVar → Listed (Option LuaString) → Tail
  tail_of deltas anchors locals names = record { line_info_lem = deltas; abs_line_info = anchors; loc_vars = locals; upvalue_names_lem = names }

  abbrev pub behind_locals : Listed ℕ → Listed AbsLineInfo → Listed LocalVar → Reader Tail
  behind_locals deltas anchors locals = strict_counted (string limit) >>= λ names. give (tail_of deltas anchors locals names)

  abbrev pub behind_anchors : Listed ℕ → Listed AbsLineInfo → Reader Tail
  behind_anchors deltas anchors = strict_counted (strict_local limit) >>= behind_locals deltas anchors

  abbrev pub behind_deltas : Listed ℕ → Reader Tail
  behind_deltas deltas = strict_counted strict_anchor >>= behind_anchors deltas
