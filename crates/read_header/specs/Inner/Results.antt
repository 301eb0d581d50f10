-- What the code shows of what the reader of the header gives.
use Rattle.std.specs.Prelude.{Option, Result, Ok, Err}
use Rattle.format.specs.declared.header.Header.{Header}
use Rattle.format.specs.declared.header.Warning.{Warning}
use Rattle.slice.specs.declared.cursor.Cursor.{Cursor}
use Rattle.std.specs.Prelude.{ℕ}
use Rattle.format.specs.GrammarHeader.{Headed}
use Rattle.format.specs.Read.{Read, ok, refused}
use Rattle.slice.specs.Shown.{cursor_at}
use Rattle.format.specs.declared.refusal.Refusal.{Refusal}
use Rattle.format.specs.declared.refusal.Refusal.TheVariants as refusal
use Rattle.read_header.specs.declared.Fixed.{Fixed}
use Rattle.read_header.specs.declared.Fixed.TheVariants as fixed
use Rattle.read_header.specs.Shown.{first_warning}

abbrev pub header_result : Read Headed → Result (Header × Option Warning × Cursor) Refusal
header_result (ok h to rest) = Ok (h.header, (first_warning h.warnings), (cursor_at to))
header_result (refused q) = Err q

-- the refusal of a fixed part that is another than it must be
abbrev pub refusal_of : Fixed → ℕ → Refusal
refusal_of fixed.Signature = refusal.Signature
refusal_of fixed.Version = refusal.Version
refusal_of fixed.LuacData = refusal.LuacData
refusal_of fixed.InstructionSize = refusal.InstructionSize
refusal_of fixed.LuaIntegerSize = refusal.LuaIntegerSize
refusal_of fixed.LuaNumberSize = refusal.LuaNumberSize
refusal_of fixed.LuacInt = refusal.LuacInt
refusal_of fixed.LuacNum = refusal.LuacNum
