-- What the code shows of an upvalue: it and the cursor behind it, or the refusal.
use Rattle.std.specs.Prelude.{Result}
use Rattle.format.specs.declared.refusal.Refusal.{Refusal}
use Rattle.slice.specs.declared.cursor.Cursor.{Cursor}
use Rattle.format.specs.declared.entry.UpvalueDesc.{UpvalueDesc}
use Rattle.format.specs.Read.{Read}
use Rattle.read_field.specs.Shown.{shown}

abbrev pub upvalue_result : Read UpvalueDesc → Result (UpvalueDesc × Cursor) Refusal
upvalue_result = shown
