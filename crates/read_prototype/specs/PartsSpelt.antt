-- How the parts of a function are spelt, as their readers pass over them (crates/format_spelling/specs/ReadSpelling.antt). Words, upvalues and deltas have no number but their count.
-- A function's own source is left to who knows the function's number: `dropping`. (`proofs/FlatSpelt.antt`: how a function is spelt is made of these.)
use Rattle.std.specs.Prelude.{ℕ}
use Rattle.format.specs.declared.limits.ResourceLimits.{ResourceLimits}
use Rattle.format.specs.declared.refusal.Refusal.TheVariants.{Constants}
use Rattle.format.specs.ReadFields as field
use Rattle.format.specs.ReadChunk as reader
use Rattle.format_spelling.specs.ReadSpelling.{Count, plus, number, string, counted, constant, anchor, local}
use Rattle.read_entry.specs.Readers.{code, line_info}
use Rattle.read_prototype.specs.Front as reader-front
use Rattle.read_prototype.specs.Parts as parts

abbrev pub lines : Count
lines = plus field.number number λ line_defined. number

abbrev pub front : ℕ → Count
front limit = plus (field.string limit) string λ source. lines

abbrev pub head_lists : ResourceLimits → ℕ → Count
head_lists L before =
    plus (code L.max_instructions_per_proto before L.max_total_instructions) number λ instructions.
    plus (reader.counted_up_to L.max_constants_per_proto Constants (reader.constant L.max_string_bytes)) (counted (reader.constant L.max_string_bytes) (constant L.max_string_bytes)) λ constants.
    number

abbrev pub head : ResourceLimits → ℕ → Count
head L before =
    plus (reader-front.front L.max_string_bytes) (front L.max_string_bytes) λ front.
    plus (parts.head_lists L before) (head_lists L before) λ lists.
    number

abbrev pub tail : ℕ → Count
tail limit =
    plus line_info number λ line_info_lem.
    plus (reader.counted reader.anchor) (counted reader.anchor anchor) λ abs_line_info.
    plus (reader.counted (reader.local limit)) (counted (reader.local limit) (local limit)) λ loc_vars.
    counted (field.string limit) string
