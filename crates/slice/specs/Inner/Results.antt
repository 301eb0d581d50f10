-- What the code shows of what a reader of `format` gives where only its end counts: the cursor behind it, or the refusal.
use Rattle.std.specs.Prelude.{ℕ, Result, Ok, Err}
use Rattle.format.specs.declared.refusal.Refusal.{Refusal}
use Rattle.slice.specs.declared.cursor.Cursor.{Cursor}
use Rattle.format.specs.Read.{Read, ok, refused}
use Rattle.slice.specs.Shown.{cursor_at}

abbrev pub cursor_result : {A : Type 0} → Read A → Result Cursor Refusal
cursor_result (ok x to rest) = Ok (cursor_at to)
cursor_result (refused q) = Err q

-- what follows a call that showed this: nothing behind a refusal
abbrev pub and_then : Result Cursor Refusal → (ℕ → Result Cursor Refusal) → Result Cursor Refusal
and_then (Ok c) f = f c.at
and_then (Err q) f = Err q
