-- What the code shows of what a reader gives, of a list: how many items, where the first begins and the cursor behind the last, or the refusal.
use Rattle.std.specs.Prelude.{Result, Ok, Err}
use Rattle.format.specs.declared.refusal.Refusal.{Refusal}
use Rattle.read_list.specs.declared.ListAt.{ListAt}
use Rattle.slice.specs.declared.cursor.Cursor.{Cursor}
use Rattle.std.specs.Prelude.{ℕ, length}
use Rattle.format.specs.GrammarChunk.{Listed}
use Rattle.format.specs.Read.{Read, ok, refused}
use Rattle.slice.specs.Shown.{cursor_at}
use Rattle.read_field.specs.Shown.{shown_as}
use Rattle.read_entry.specs.Readers.{Count}

-- of what passing over its items showed
abbrev pub listed_of : Result Cursor Refusal → ℕ → ℕ → Result (ListAt × Cursor) Refusal
listed_of (Ok c) count place = Ok ((record { count = count; place = place }), c)
listed_of (Err q) count place = Err q

abbrev pub list_at : {A : Type 0} → Listed A → ListAt
list_at l = record { count = length l.items; place = l.place }

abbrev pub list_result : {A : Type 0} → Read (Listed A) → Result (ListAt × Cursor) Refusal
list_result = shown_as list_at

abbrev pub count_at : Count → ListAt
count_at c = record { count = c.count; place = c.place }

abbrev pub count_result : Read Count → Result (ListAt × Cursor) Refusal
count_result = shown_as count_at
