-- A function's row, and where a list with an entry of a number stands.
use Rattle.std.specs.Prelude.{Result, Ok, Err}
use Rattle.format.specs.declared.refusal.Refusal.{Refusal}
use Rattle.slice.specs.declared.cursor.Cursor.{Cursor}
use Rattle.std.specs.Prelude.{cond, ℕ, ltb}
use Rattle.format.specs.declared.refusal.Refusal.TheVariants.{NoEntry}
use Rattle.format.specs.Reading.{Prototype}
use Rattle.slice.specs.Shown.{cursor_at}
use Rattle.read_prototype.specs.declared.row.FunctionRow.{FunctionRow}
use Rattle.read_list.specs.declared.ListAt.{ListAt}
use Rattle.read_prototype.specs.Inner.Row.{row_of}
use Rattle.show_row.specs.declared.place.EntryKind.{EntryKind}
use Rattle.show_row.specs.declared.place.EntryKind.TheVariants as kind
use Rattle.show_row.specs.Asked.{Asked, found, refused}

-- of a function its row
abbrev pub shown_row_answer : Asked Prototype → Result FunctionRow Refusal
shown_row_answer (found p) = Ok (row_of p)
shown_row_answer (refused q) = Err q

abbrev pub list_of : EntryKind → FunctionRow → ListAt
list_of kind.Instruction r = r.lists.instructions
list_of kind.Constant r = r.lists.constants
list_of kind.Upvalue r = r.lists.upvalues
list_of kind.Delta r = r.lists.line_info
list_of kind.Anchor r = r.lists.abs_line_info
list_of kind.Local r = r.lists.loc_vars
list_of kind.UpvalueName r = r.lists.upvalue_names

-- of a list: its first entry, if it has one of that number
abbrev pub place_in : ListAt → ℕ → Result Cursor Refusal
place_in l n = cond (ltb n l.count) (Ok (cursor_at l.place)) (Err NoEntry)

abbrev pub shown_place : EntryKind → ℕ → Asked Prototype → Result Cursor Refusal
shown_place k n (found p) = place_in (list_of k (row_of p)) n
shown_place k n (refused q) = Err q
