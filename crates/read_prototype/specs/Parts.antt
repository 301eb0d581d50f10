-- A function in two parts, before and behind the functions that nest in it, as readers.
use Rattle.std.proofs.Math.Option.{Option}
use Rattle.std.specs.Prelude.{ℕ}
use Rattle.format.specs.declared.limits.ResourceLimits.{ResourceLimits}
use Rattle.format.specs.declared.refusal.Refusal.TheVariants.{Constants, Upvalues}
use Rattle.format.specs.declared.entry.UpvalueDesc.{UpvalueDesc}
use Rattle.format.specs.declared.entry.AbsLineInfo.{AbsLineInfo}
use Rattle.format.specs.GrammarFields.{LuaString}
use Rattle.format.specs.Reading.{ConstantValue, LocalVar}
use Rattle.format.specs.GrammarChunk.{Listed}
use Rattle.format.specs.Read.{Read, Reader, next, ◌>>=◌, ◌>>◌, give}
use Rattle.format.specs.ReadFields.{string}
use Rattle.format.specs.ReadChunk.{counted, counted_up_to, constant, upvalue, anchor, local}
use Rattle.read_entry.specs.Readers.{Count, protos_count, code, line_info}
use Rattle.read_prototype.specs.Front.{Front, front}

-- the lists before the nested functions
pub record HeadLists : Type 0 where
  pub instructions : Listed ℕ
  pub constants : Listed ConstantValue
  pub upvalues : Listed UpvalueDesc

-- behind so many instructions of the functions before
abbrev pub head_lists : ResourceLimits → ℕ → Reader HeadLists
head_lists L before = do
  instructions ← code L.max_instructions_per_proto before L.max_total_instructions
  constants ← counted_up_to L.max_constants_per_proto Constants (constant L.max_string_bytes)
  upvalues ← counted_up_to L.max_upvalues_per_proto Upvalues upvalue
  give (record { instructions = instructions; constants = constants; upvalues = upvalues })

pub record Head : Type 0 where
  pub front : Front
  pub lists : HeadLists
  pub protos : Count

abbrev pub head : ResourceLimits → ℕ → Reader Head
head L before = do
  front ← front L.max_string_bytes
  lists ← head_lists L before
  protos ← protos_count L.max_total_prototypes
  give (record { front = front; lists = lists; protos = protos })

pub record Tail : Type 0 where
  pub line_info_lem : Listed ℕ
  pub abs_line_info : Listed AbsLineInfo
  pub loc_vars : Listed LocalVar
  pub upvalue_names_lem : Listed (Option LuaString)

abbrev pub tail : ℕ → Reader Tail
tail limit = do
  line_info_lem ← line_info
  abs_line_info ← counted anchor
  loc_vars ← counted (local limit)
  upvalue_names_lem ← counted (string limit)
  give (record { line_info_lem = line_info_lem; abs_line_info = abs_line_info; loc_vars = loc_vars; upvalue_names_lem = upvalue_names_lem })
