-- What the code shows of the front of a function.
use Rattle.std.specs.Prelude.{Result}
use Rattle.format.specs.declared.refusal.Refusal.{Refusal}
use Rattle.slice.specs.declared.cursor.Cursor.{Cursor}
use Rattle.format.specs.Read.{Read}
use Rattle.read_field.specs.Shown.{shown, shown_as}
use Rattle.read_prototype.specs.declared.front.Lines.{Lines}
use Rattle.read_prototype.specs.declared.front.Sizes.{Sizes}
use Rattle.read_prototype.specs.declared.front.Front as declared-front
use Rattle.read_prototype.specs.Front.{Front}
use Rattle.read_prototype.specs.PartsShown.{front_of}

abbrev pub lines_result : Read Lines → Result (Lines × Cursor) Refusal
lines_result = shown

abbrev pub sizes_result : Read Sizes → Result (Sizes × Cursor) Refusal
sizes_result = shown

abbrev pub front_result : Read Front → Result (declared-front.Front × Cursor) Refusal
front_result = shown_as front_of
