-- Parts of `strictBody` (crates/format_strict/specs/ReadStrict.antt), as readers, with what read_prototype's give. (`proofs/Flat.antt`: it is made of these.)
use Rattle.std.specs.Prelude.{ℕ, ◌+◌}
use Rattle.format.specs.declared.limits.ResourceLimits.{ResourceLimits}
use Rattle.format.specs.declared.refusal.Refusal.{Refusal}
use Rattle.format.specs.declared.refusal.Refusal.TheVariants.{Instructions, TotalInstructions, Constants, Upvalues, Prototypes}
use Rattle.format.specs.declared.entry.UpvalueDesc.{UpvalueDesc}
use Rattle.format.specs.Reading.{ConstantValue}
use Rattle.format.specs.GrammarChunk.{Listed}
use Rattle.format.specs.Read.{Reader, ◌>>=◌, ◌>>◌, give, here, at_most, run, many}
use Rattle.format.specs.ReadFields.{field, string}
use Rattle.format.specs.ReadChunk.{upvalue}
use Rattle.format_strict.specs.ReadStrict.{int, strict_counted, strict_counted_up_to, strict_constant, strict_anchor, strict_local}
use Rattle.read_entry.specs.Readers.{Count}
use Rattle.read_prototype.specs.Front.{Front, sizes}
use Rattle.read_prototype.specs.Parts.{Head, Tail}

-- ## Counts
abbrev pub int_up_to : ℕ → Refusal → Reader ℕ
int_up_to limit refusal = do
  n ← int
  at_most n limit refusal
  give n

-- how many instructions, behind `before` of the functions before
abbrev pub strict_code_count : ℕ → ℕ → ℕ → Reader ℕ
strict_code_count per-proto before total = do
  first ← here
  size ← int_up_to per-proto (Instructions first)
  at_most (before + size) total (TotalInstructions first)
  give size

abbrev pub strict_protos : ℕ → Reader Count
strict_protos limit = do
  first ← here
  protos ← int
  at_most protos limit (Prototypes first)
  place ← here
  give (record { count = protos; place = place })

-- ## Lists
abbrev pub strict_code : ℕ → ℕ → ℕ → Reader (Listed ℕ)
strict_code per-proto before total = do
  first ← here
  size ← int
  at_most size per-proto (Instructions first)
  at_most (before + size) total (TotalInstructions first)
  place ← here
  words ← many size (field 4)
  give (record { place = place; items = words })

abbrev pub strict_line_info : Reader (Listed ℕ)
strict_line_info = do
  size ← int
  place ← here
  deltas ← run size
  give (record { place = place; items = deltas })

-- ## Parts
abbrev pub strict_front : ℕ → Reader Front
strict_front limit = do
  source ← string limit
  line_defined ← int
  last_line_defined ← int
  three ← sizes
  give (record { source = source; lines = record { line_defined = line_defined; last_line_defined = last_line_defined }; sizes = three })

abbrev pub strict_lists : ResourceLimits → Reader (Listed ConstantValue × Listed UpvalueDesc)
strict_lists L = do
  constants ← strict_counted_up_to L.max_constants_per_proto Constants (strict_constant L.max_string_bytes)
  upvalues ← strict_counted_up_to L.max_upvalues_per_proto Upvalues upvalue
  give (constants, upvalues)

-- behind so many instructions of the functions before
abbrev pub strict_head : ResourceLimits → ℕ → Reader Head
strict_head L before = do
  front ← strict_front L.max_string_bytes
  instructions ← strict_code L.max_instructions_per_proto before L.max_total_instructions
  two ← strict_lists L
  protos ← strict_protos L.max_total_prototypes
  give (record { front = front; lists = record { instructions = instructions; constants = two.0; upvalues = two.1 }; protos = protos })

abbrev pub strict_tail : ℕ → Reader Tail
strict_tail limit = do
  line_info_lem ← strict_line_info
  abs_line_info ← strict_counted strict_anchor
  loc_vars ← strict_counted (strict_local limit)
  upvalue_names_lem ← strict_counted (string limit)
  give (record { line_info_lem = line_info_lem; abs_line_info = abs_line_info; loc_vars = loc_vars; upvalue_names_lem = upvalue_names_lem })
