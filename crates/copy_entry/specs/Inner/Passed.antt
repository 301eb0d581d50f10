-- What is shown of an entry and of a list that are read and put in one pass.
--     cursor_of, list_of        what was read of them: how far, and the list
--     PutsListed r bytes s l at old new    the entries of the list l, behind their count, put at a place
use Rattle.std.specs.Prelude.{Result, Ok, Err, ℕ, drop}
use Rattle.format.specs.declared.refusal.Refusal.{Refusal}
use Rattle.format.specs.Form.{Bytes}
use Rattle.format.specs.Read.{Reader, many}
use Rattle.slice.specs.declared.cursor.Cursor.{Cursor}
use Rattle.read_list.specs.declared.ListAt.{ListAt}
use Rattle.copy_put.specs.Inner.Put.{PutsAll}
use Rattle.copy_entry.specs.declared.entry.Passed.{Passed}
use Rattle.copy_entry.specs.declared.listed.Listed.{Listed}

abbrev pub cursor_of : Result Passed Refusal → Result Cursor Refusal
cursor_of (Ok p) = Ok p.next
cursor_of (Err q) = Err q

abbrev pub list_of : Result Listed Refusal → Result (ListAt × Cursor) Refusal
list_of (Ok l) = Ok (l.list, l.next)
list_of (Err q) = Err q

abbrev pub PutsListed : {A : Type 0} → Reader A → (A → Bytes) → Bytes → Listed → ℕ → Bytes → Bytes → Type 0
PutsListed r bytes s l at old new = PutsAll bytes (many l.list.count r l.list.place (drop l.list.place s)) at old l.behind new
