-- Of a function's row: what the code's parts give.
use Rattle.std.specs.Prelude.{cond, List, [], map, ℕ, eqb, take, drop}
use Rattle.std.proofs.Math.Option.{Option}
use Rattle.format.specs.declared.entry.AbsLineInfo.{AbsLineInfo}
use Rattle.format.specs.declared.refusal.Refusal.{Refusal}
use Rattle.format.specs.Form.{Bytes}
use Rattle.slice.specs.Shown.{cursor_at}
use Rattle.read_prototype.specs.declared.row.FunctionRow.{FunctionRow}
use Rattle.line_lookup.specs.Lines.{line_of}
use Rattle.line_batch.specs.declared.anchors.Anchors.{Anchors}
use Rattle.line_batch.specs.Batch.{refusal_of, deltas_read}
use Rattle.line_batch.specs.Inner.Anchors.{anchors_of}
use Rattle.line_batch.specs.Inner.Numbered.{none_passed, numbered_from}

abbrev pub deltas_in : Bytes → FunctionRow → Bytes
deltas_in s row = take row.lists.line_info.count (drop row.lists.line_info.place s)

abbrev pub all_in : FunctionRow → Anchors
all_in row = record { next = cursor_at row.lists.abs_line_info.place; left = row.lists.abs_line_info.count }

abbrev pub anchors_in : Bytes → FunctionRow → List AbsLineInfo
anchors_in s row = anchors_of s (all_in row)

abbrev pub row_refusal : Bytes → FunctionRow → ℕ → List ℕ → Option Refusal
row_refusal s row space pcs = refusal_of row.lines.line_defined (anchors_in s row) space pcs

-- the lines of the pcs at the front that rule 2 answers
abbrev pub row_numbered : Bytes → FunctionRow → List ℕ → List ℕ
row_numbered s row pcs = cond (eqb (all_in row).left row.lists.instructions.count) (numbered_from (all_in row).left (none_passed (anchors_in s row)) pcs) []

abbrev pub row_lines : Bytes → FunctionRow → List ℕ → List ℕ
row_lines s row pcs = map (line_of row.lists.instructions.count row.lines.line_defined (deltas_in s row) (anchors_in s row)) pcs

abbrev pub row_deltas_read : Bytes → FunctionRow → List ℕ → ℕ
row_deltas_read s row pcs = deltas_read row.lists.instructions.count row.lines.line_defined (deltas_in s row) (anchors_in s row) pcs
