-- What is answered behind C: the numbers of each answer (done), or its refusal (refuses).
use Rattle.std.specs.Prelude.{ℕ, ℤ, Option, Result, Ok, Err}
use Rattle.format.specs.declared.entry.AbsLineInfo.{AbsLineInfo}
use Rattle.format.specs.declared.entry.UpvalueDesc.{UpvalueDesc}
use Rattle.format.specs.declared.refusal.Refusal.{Refusal}
use Rattle.read_entry.specs.declared.constant.ConstantValue.{ConstantValue}
use Rattle.read_field.specs.declared.string.StringAt.{StringAt}
use Rattle.show_chunk.specs.declared.fields.FunctionFields.{FunctionFields}
use Rattle.show_chunk.specs.declared.summary.ChunkSummary.{ChunkSummary}
use Rattle.show_local.specs.declared.LocalShown.{LocalShown}
use Rattle.validate_rules.specs.declared.finding.Verdict.{Verdict}
use Rattle.std.specs.Prelude.{[], ◌∷◌}
use Rattle.c_boundary.specs.Status.{Answer, done, refuses, complement}
use Rattle.c_entries.specs.EntryNumbers.{string_numbers, constant_numbers, upvalue_numbers, anchor_numbers, local_numbers}
use Rattle.c_finding.specs.FindingNumbers.{verdict_number}
use Rattle.c_numbers.specs.Numbers.{summary_numbers, fields_numbers}

abbrev pub ofSummary : Result ChunkSummary Refusal → Answer
ofSummary (Ok y) = done (summary_numbers y)
ofSummary (Err q) = refuses q

abbrev pub of_fields : Result FunctionFields Refusal → Answer
of_fields (Ok y) = done (fields_numbers y)
of_fields (Err q) = refuses q

abbrev pub ofLine : Result ℕ Refusal → Answer
ofLine (Ok n) = done (n ∷ [])
ofLine (Err q) = refuses q

abbrev pub ofLines : Result ℕ Refusal → Answer
ofLines (Ok n) = done (n ∷ [])
ofLines (Err q) = refuses q

-- ## Entries
abbrev pub ofWord : Result ℕ Refusal → Answer
ofWord (Ok w) = done (w ∷ [])
ofWord (Err q) = refuses q

abbrev pub ofConstant : Result ConstantValue Refusal → Answer
ofConstant (Ok k) = done (constant_numbers k)
ofConstant (Err q) = refuses q

abbrev pub ofUpvalue : Result UpvalueDesc Refusal → Answer
ofUpvalue (Ok u) = done (upvalue_numbers u)
ofUpvalue (Err q) = refuses q

abbrev pub ofDelta : Result ℤ Refusal → Answer
ofDelta (Ok z) = done (complement z ∷ [])
ofDelta (Err q) = refuses q

abbrev pub ofAnchor : Result AbsLineInfo Refusal → Answer
ofAnchor (Ok a) = done (anchor_numbers a)
ofAnchor (Err q) = refuses q

abbrev pub of_local : Result LocalShown Refusal → Answer
of_local (Ok l) = done (local_numbers l.name_len l.startpc l.endpc)
of_local (Err q) = refuses q

abbrev pub ofName : Result (Option StringAt) Refusal → Answer
ofName (Ok t) = done (string_numbers t)
ofName (Err q) = refuses q

-- ## Whole chunks
abbrev pub ofIndex : Result ℕ Refusal → Answer
ofIndex (Ok n) = done (n ∷ [])
ofIndex (Err q) = refuses q

abbrev pub ofCopy : Result ℕ Refusal → Answer
ofCopy (Ok n) = done (n ∷ [])
ofCopy (Err q) = refuses q

abbrev pub ofVerdict : Result Verdict Refusal → Answer
ofVerdict (Ok v) = done (verdict_number v ∷ [])
ofVerdict (Err q) = refuses q

abbrev pub ofCount : Result ℕ Refusal → Answer
ofCount (Ok n) = done (n ∷ [])
ofCount (Err q) = refuses q
