-- A place, as the code has it.
use Rattle.std.specs.Prelude.{ℕ}
use Rattle.slice.specs.declared.cursor.Cursor.{Cursor}

abbrev pub cursor_at : ℕ → Cursor
cursor_at at = record { at = at }
