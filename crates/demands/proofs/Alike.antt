-- When calls answer alike on two chunks, and when two readings are equal in what these calls show: the definitions of `Together.antt`.
--     AnswerAlike L s M t      on the chunk s under L and on t under M the summary but for its count of padded numbers, the trailing bytes, the fields, every entry of every function, a local's name as it is written into lent space, are alike;
--                              and where an answer has a string, as place and length, so is what `string_bytes` shows by that place and length (01: 'A string is shown as place, just after its size, and length, its bytes as a
--                              part of the caller's chunk')
--     EqualAsShown r q         the readings are equal but for what none of these calls shows: of a function its start and its end and where its lists begin; of a local variable where its name stands
--     IndexAlike, SamePlaces   the index is alike; start and end, and where words and constants begin, are equal
-- Assumes nothing.
use Rattle.std.specs.Prelude.{Option, Some, None, Result, Ok, Err}
use Rattle.format.specs.declared.refusal.Refusal.{Refusal}
use Rattle.show_chunk.specs.declared.fields.FunctionFields.{FunctionFields}
use Rattle.show_chunk.specs.declared.summary.ChunkSummary.{ChunkSummary}
use mathlib.Core.Path.{◌≡◌}
use mathlib.Core.List.{List, []}
use Prim.Native.Nat.{ℕ}
use lib.ListN.{length, take, drop}
use Rattle.format.specs.declared.limits.ResourceLimits.{ResourceLimits}
use Rattle.format.specs.Form.{Bytes}
use Rattle.format.specs.Reading.{Reading, Prototype}
use Rattle.format.specs.ReadChunk.{read}
use Rattle.format_spelling.specs.ReadSpelling.{spelling}
use Rattle.read_field.specs.declared.string.StringAt.{StringAt}
use Rattle.read_entry.specs.declared.constant.ConstantValue.{ConstantValue}
use Rattle.read_entry.specs.declared.constant.ConstantValue.TheVariants as constant
use Rattle.show_row.specs.Asked.{function_of, entry_of}
use Rattle.show_chunk.specs.Summaries.{shown_summary, trailing_of}
use Rattle.show_chunk.specs.Fields.{shown_fields}
use Rattle.show_entry.specs.Entries.{shown_word, shown_constant, shown_upvalue, shown_delta, shown_anchor, shown_name}
use Rattle.show_local.specs.Locals.{shown_local, name_written}
use Rattle.index.specs.Index.{shown_index, index_written}
use Rattle.demands.proofs.Same.{Pairwise, SameLocal}

-- ## What `string_bytes` shows by the place and length in an answer; of an answer without a string nothing
abbrev pub string_shown : Bytes → StringAt → Bytes
string_shown s a = take a.len (drop a.place s)

abbrev pub option_shown : Bytes → Option StringAt → Bytes
option_shown s (Some a) = string_shown s a
option_shown s None = []

abbrev pub value_shown : Bytes → ConstantValue → Bytes
value_shown s constant.Nil = []
value_shown s (constant.Boolean b) = []
value_shown s (constant.Integer z) = []
value_shown s (constant.Float n) = []
value_shown s (constant.ShortString a) = string_shown s a
value_shown s (constant.LongString a) = string_shown s a

abbrev pub source_shown : Bytes → Result FunctionFields Refusal → Bytes
source_shown s (Ok f) = option_shown s f.source_name
source_shown s (Err q) = []

abbrev pub constant_shown : Bytes → Result ConstantValue Refusal → Bytes
constant_shown s (Ok v) = value_shown s v
constant_shown s (Err q) = []

abbrev pub name_shown : Bytes → Result (Option StringAt) Refusal → Bytes
name_shown s (Ok t) = option_shown s t
name_shown s (Err q) = []

-- ## A summary without the number of padded numbers: it is no part of the reading (02, item 1), and two chunks of one reading may differ in it (`Request01.antt`)
abbrev pub without_count : Result ChunkSummary Refusal → Result ChunkSummary Refusal
without_count (Ok y) = Ok (record { summary = y.summary; padded_numbers = 0 })
without_count (Err q) = Err q

-- ## The calls answer alike
pub record AnswerAlike (L : ResourceLimits) (s : Bytes) (M : ResourceLimits) (t : Bytes) : Type 0 where
  pub summary : without_count (shown_summary (spelling L s) (read L s)) ≡ without_count (shown_summary (spelling M t) (read M t))
  pub trailing : trailing_of (read L s) ≡ trailing_of (read M t)
  pub fields : (f : ℕ) → shown_fields (function_of f (read L s)) ≡ shown_fields (function_of f (read M t))
  pub source_bytes : (f : ℕ) → source_shown s (shown_fields (function_of f (read L s))) ≡ source_shown t (shown_fields (function_of f (read M t)))
  pub instruction : (f i : ℕ) → shown_word (entry_of (λ p. p.instructions) f i (read L s)) ≡ shown_word (entry_of (λ p. p.instructions) f i (read M t))
  pub constant : (f i : ℕ) → shown_constant (entry_of (λ p. p.constants) f i (read L s)) ≡ shown_constant (entry_of (λ p. p.constants) f i (read M t))
  pub constant_bytes : (f i : ℕ) → constant_shown s (shown_constant (entry_of (λ p. p.constants) f i (read L s))) ≡ constant_shown t (shown_constant (entry_of (λ p. p.constants) f i (read M t)))
  pub upvalue : (f i : ℕ) → shown_upvalue (entry_of (λ p. p.upvalues) f i (read L s)) ≡ shown_upvalue (entry_of (λ p. p.upvalues) f i (read M t))
  pub delta : (f i : ℕ) → shown_delta (entry_of (λ p. p.line_info_lem) f i (read L s)) ≡ shown_delta (entry_of (λ p. p.line_info_lem) f i (read M t))
  pub anchor : (f i : ℕ) → shown_anchor (entry_of (λ p. p.abs_line_info) f i (read L s)) ≡ shown_anchor (entry_of (λ p. p.abs_line_info) f i (read M t))
  pub upvalue_name : (f i : ℕ) → shown_name (entry_of (λ p. p.upvalue_names_lem) f i (read L s)) ≡ shown_name (entry_of (λ p. p.upvalue_names_lem) f i (read M t))
  pub upvalue_name_bytes : (f i : ℕ) → name_shown s (shown_name (entry_of (λ p. p.upvalue_names_lem) f i (read L s))) ≡ name_shown t (shown_name (entry_of (λ p. p.upvalue_names_lem) f i (read M t)))
  pub local : (f i : ℕ) (old : Bytes) → shown_local (length old) (entry_of (λ p. p.loc_vars) f i (read L s)) ≡ shown_local (length old) (entry_of (λ p. p.loc_vars) f i (read M t))
  pub local_name : (f i : ℕ) (old : Bytes) → name_written old (entry_of (λ p. p.loc_vars) f i (read L s)) ≡ name_written old (entry_of (λ p. p.loc_vars) f i (read M t))

-- ## The readings are equal but for what these calls do not show
pub record EqualFunction (p q : Prototype) : Type 0 where
  pub depth : p.depth ≡ q.depth
  pub parent : p.parent ≡ q.parent
  pub source_name : p.source_name ≡ q.source_name
  pub line_defined : p.line_defined ≡ q.line_defined
  pub last_line_defined : p.last_line_defined ≡ q.last_line_defined
  pub numparams : p.numparams ≡ q.numparams
  pub is_vararg : p.is_vararg ≡ q.is_vararg
  pub maxstacksize : p.maxstacksize ≡ q.maxstacksize
  pub instructions : p.instructions ≡ q.instructions
  pub constants : p.constants ≡ q.constants
  pub upvalues : p.upvalues ≡ q.upvalues
  pub protos : p.protos ≡ q.protos
  pub line_info_lem : p.line_info_lem ≡ q.line_info_lem
  pub abs_line_info : p.abs_line_info ≡ q.abs_line_info
  pub loc_vars : Pairwise SameLocal p.loc_vars q.loc_vars
  pub upvalue_names_lem : p.upvalue_names_lem ≡ q.upvalue_names_lem

pub record EqualAsShown (r q : Reading) : Type 0 where
  pub header : r.header ≡ q.header
  pub warnings : r.warnings ≡ q.warnings
  pub functions : Pairwise EqualFunction r.functions q.functions
  pub trailing_at : r.trailing_at ≡ q.trailing_at
  pub trailing : r.trailing ≡ q.trailing

-- ## The index shows start and end as well, and where the words and the constants begin
pub record SamePlaces (p q : Prototype) : Type 0 where
  pub start : p.start ≡ q.start
  pub end : p.end ≡ q.end
  pub instructions_at : p.places.instructions ≡ q.places.instructions
  pub constants_at : p.places.constants ≡ q.places.constants

pub record IndexAlike (L : ResourceLimits) (s : Bytes) (M : ResourceLimits) (t : Bytes) : Type 0 where
  pub answer : (old : List ℕ) → shown_index (length old) (read L s) ≡ shown_index (length old) (read M t)
  pub rows : (old : List ℕ) → index_written old (read L s) ≡ index_written old (read M t)
