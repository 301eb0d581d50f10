-- The same line by one pass over the anchors (`Scan.antt` of crate line_anchors) and one over the deltas: what the code's parts give.
-- Of the deltas of −128 that have an anchor only the last counts: behind it the line is that anchor's, whatever was before.
use Rattle.std.specs.Prelude.{Result, Err}
use Rattle.format.specs.declared.refusal.Refusal.{Refusal}
use Rattle.std.specs.Prelude.{cond, List, [], ◌∷◌, ℕ, eqb, ltb, ℤ, pos, ◌+ℤ◌, take, drop}
use Rattle.std.specs.Int.{w8}
use Rattle.std.proofs.Common.{to_z}
use Rattle.format.specs.declared.entry.AbsLineInfo.{AbsLineInfo}
use Rattle.format.specs.Form.{Bytes}
use Rattle.format.specs.Read.{Read, ok, refused, many}
use Rattle.format.specs.ReadChunk.{anchor}
use Rattle.read_prototype.specs.declared.row.FunctionRow.{FunctionRow}
use Rattle.line_anchors.specs.declared.Scan.{Scan}
use Rattle.line_anchors.specs.declared.Sought.{Sought}
use Rattle.line_anchors.specs.declared.Sought.TheVariants.{Ahead}
use Rattle.line_lookup.specs.Lines.{raised, answer_of}

-- ## The deltas
abbrev pub start_in : Scan → AbsLineInfo
start_in z = cond (ltb z.base.pc z.reset.pc) z.reset z.base

abbrev pub added : ℤ → ℕ → ℤ
added line d = cond (eqb d 128) line (line +ℤ to_z w8 d)

abbrev pub summed : ℤ → Bytes → ℤ
summed line [] = line
summed line (d ∷ ds) = summed (added line d) ds

abbrev pub line_from : Scan → Bytes → ℕ
line_from z [] = 0
line_from z (d ∷ ds) = raised (summed (pos (start_in z).line) (drop (start_in z).pc (d ∷ ds)))

-- ## Of a row
abbrev pub numbered_of : ℕ → ℕ → Sought → Sought
numbered_of anchors instructions sought = cond (eqb anchors instructions) sought (Ahead 0)

abbrev pub answered : FunctionRow → ℕ → Bytes → Read (List AbsLineInfo) → Result ℕ Refusal
answered row pc s (ok anchors to rest) = answer_of row.lists.instructions.count row.lines.line_defined (take row.lists.line_info.count (drop row.lists.line_info.place s)) anchors pc
answered row pc s (refused q) = Err q

abbrev pub shown_row_line : FunctionRow → ℕ → Bytes → Result ℕ Refusal
shown_row_line row pc s = answered row pc s (many row.lists.abs_line_info.count anchor row.lists.abs_line_info.place (drop row.lists.abs_line_info.place s))
