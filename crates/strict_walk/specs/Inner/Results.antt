-- What the code shows of what is read: of a list its length, of a function before those that nest in it two counts.
use Rattle.std.specs.Prelude.{ℕ, Result, Ok, Err}
use Rattle.format.specs.declared.refusal.Refusal.{Refusal}
use Rattle.slice.specs.declared.cursor.Cursor.{Cursor}
use Rattle.std.specs.Prelude.{length}
use Rattle.format.specs.GrammarChunk.{Listed}
use Rattle.format.specs.Read.{Read, ok, refused}
use Rattle.slice.specs.Shown.{cursor_at}
use Rattle.read_prototype.specs.Parts.{Head}

abbrev pub length_result : {A : Type 0} → Read (Listed A) → Result (ℕ × Cursor) Refusal
length_result (ok l to rest) = Ok (length l.items, cursor_at to)
length_result (refused q) = Err q

abbrev pub head_passed : Read Head → Result (ℕ × ℕ × Cursor) Refusal
head_passed (ok h to rest) = Ok (length h.lists.instructions.items, h.protos.count, cursor_at to)
head_passed (refused q) = Err q
