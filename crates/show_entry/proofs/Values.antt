-- Of what was read, the value without the cursor behind it.
-- Assumes nothing.
use Rattle.std.specs.Prelude.{Result, Ok, Err}
use Rattle.format.specs.declared.refusal.Refusal.{Refusal}
use Rattle.slice.specs.declared.cursor.Cursor.{Cursor}

abbrev pub value_as : {A B : Type 0} → (A → B) → Result (A × Cursor) Refusal → Result B Refusal
value_as of (Ok (v, c)) = Ok (of v)
value_as of (Err q) = Err q
