-- No part of a function has more padded numbers, or filled strings, than bytes: so sums of what the parts have fit.
-- Assumes nothing.
use Prim.Native.Nat.{ℕ}
use Rattle.format.specs.declared.limits.ResourceLimits.{ResourceLimits}
use Rattle.format.specs.declared.refusal.Refusal.TheVariants.{Constants, Upvalues}
use Rattle.format.specs.ReadChunk as reader
use Rattle.format.specs.ReadFields.{number, string}
use Rattle.format.proofs.Exact.{exact_give}
use Rattle.format.proofs.ExactFields.{exact_number, exact_field, exact_string}
use Rattle.format.proofs.ExactChunk.{exact_counted, exact_counted_up_to, exact_constant, exact_upvalue, exact_anchor, exact_local}
use Rattle.format_spelling.specs.ReadSpelling as count
use Rattle.format_spelling.proofs.SpellingLaws.{tells_number, tells_string, tells_counted, tells_counted_up_to, tells_constant, tells_anchor, tells_local}
use Rattle.format_spelling.proofs.Few.{few_number, few_string, few_counted, few_counted_up_to, few_constant, few_anchor, few_local}
use Rattle.format_spelling.proofs.Covers.{Covers, covers_few, covers_none, covers_number, covers_then, covers_last}
use Rattle.read_list.proofs.Within.{exact_code, exact_line_info, exact_protos_count}
use Rattle.read_prototype.specs.Front.{lines, sizes, front}
use Rattle.read_prototype.specs.Parts.{head_lists, head, tail}
use Rattle.read_prototype.specs.PartsSpelt as spelt

-- ## Fields
pub covers_one : Covers number count.number
covers_one = covers_few exact_number tells_number few_number

pub covers_string : (limit : ℕ) → Covers (string limit) count.string
covers_string limit = covers_few (exact_string limit) (tells_string limit) (few_string limit)

-- ## Lists
pub covers_constants : (limit bytes : ℕ) → Covers (reader.counted_up_to limit Constants (reader.constant bytes)) (count.counted (reader.constant bytes) (count.constant bytes))
covers_constants limit bytes = covers_few (exact_counted_up_to limit Constants (exact_constant bytes)) (tells_counted_up_to limit (exact_constant bytes) (tells_constant bytes)) (few_counted_up_to limit (few_constant bytes))

pub covers_anchors : Covers (reader.counted reader.anchor) (count.counted reader.anchor count.anchor)
covers_anchors = covers_few (exact_counted exact_anchor) (tells_counted exact_anchor tells_anchor) (few_counted few_anchor)

pub covers_locals : (limit : ℕ) → Covers (reader.counted (reader.local limit)) (count.counted (reader.local limit) (count.local limit))
covers_locals limit = covers_few (exact_counted (exact_local limit)) (tells_counted (exact_local limit) (tells_local limit)) (few_counted (few_local limit))

pub covers_names : (limit : ℕ) → Covers (reader.counted (string limit)) (count.counted (string limit) count.string)
covers_names limit = covers_few (exact_counted (exact_string limit)) (tells_counted (exact_string limit) (tells_string limit)) (few_counted (few_string limit))

-- ## Parts
pub covers_lines : Covers lines spelt.lines
covers_lines = covers_then covers_one λ _. covers_last covers_one λ _. covers_none (exact_give _)

pub covers_sizes : Covers sizes count.none
covers_sizes = covers_last (covers_none (exact_field 1)) λ _. covers_last (covers_none (exact_field 1)) λ _. covers_last (covers_none (exact_field 1)) λ _. covers_none (exact_give _)

pub covers_front : (limit : ℕ) → Covers (front limit) (spelt.front limit)
covers_front limit = covers_then (covers_string limit) λ _. covers_last covers_lines λ _. covers_last covers_sizes λ _. covers_none (exact_give _)

pub covers_lists : (L : ResourceLimits) (before : ℕ) → Covers (head_lists L before) (spelt.head_lists L before)
covers_lists L before =
    covers_then (covers_number (exact_code L.max_instructions_per_proto before L.max_total_instructions)) λ _.
    covers_then (covers_constants L.max_constants_per_proto L.max_string_bytes) λ _.
    covers_last (covers_number (exact_counted_up_to L.max_upvalues_per_proto Upvalues exact_upvalue)) λ _.
    covers_none (exact_give _)

pub covers_head : (L : ResourceLimits) (before : ℕ) → Covers (head L before) (spelt.head L before)
covers_head L before = covers_then (covers_front L.max_string_bytes) λ _. covers_then (covers_lists L before) λ _. covers_last (covers_number (exact_protos_count L.max_total_prototypes)) λ _. covers_none (exact_give _)

pub covers_tail : (limit : ℕ) → Covers (tail limit) (spelt.tail limit)
covers_tail limit = covers_then (covers_number exact_line_info) λ _. covers_then covers_anchors λ _. covers_then (covers_locals limit) λ _. covers_last (covers_names limit) λ _. covers_none (exact_give _)
