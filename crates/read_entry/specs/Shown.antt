-- What the code shows of what a reader gives, of an entry: the value and the cursor behind it, or the refusal.
use Rattle.std.specs.Prelude.{Result}
use Rattle.format.specs.declared.refusal.Refusal.{Refusal}
use Rattle.read_entry.specs.declared.debug.LocalAt.{LocalAt}
use Rattle.slice.specs.declared.cursor.Cursor.{Cursor}
use Rattle.std.specs.Prelude.{length}
use Rattle.std.specs.Int.{w64}
use Rattle.std.proofs.Common.{to_z}
use Rattle.format.specs.GrammarFields.{LuaString}
use Rattle.format.specs.declared.entry.AbsLineInfo.{AbsLineInfo}
use Rattle.format.specs.Reading as reading
use Rattle.format.specs.Read.{Read}
use Rattle.read_field.specs.declared.string.StringAt.{StringAt}
use Rattle.read_field.specs.Shown.{option_string, shown, shown_as}
use Rattle.read_entry.specs.declared.constant.ConstantValue.{ConstantValue}
use Rattle.read_entry.specs.declared.constant.ConstantValue.TheVariants as constant
use Rattle.read_entry.specs.Readers.{RawLocal}

-- ## Constants
-- of a string its place and length
abbrev pub string_at : LuaString → StringAt
string_at t = record { place = t.place; len = length t.bytes }

-- an integer's 64 bits are shown as a signed number, a float's as they are
abbrev pub constant_value : reading.ConstantValue → ConstantValue
constant_value reading.nil = constant.Nil
constant_value (reading.boolean b) = constant.Boolean b
constant_value (reading.integer n) = constant.Integer (to_z w64 n)
constant_value (reading.float n) = constant.Float n
constant_value (reading.short_string t) = constant.ShortString (string_at t)
constant_value (reading.long_string t) = constant.LongString (string_at t)

abbrev pub constant_result : Read reading.ConstantValue → Result (ConstantValue × Cursor) Refusal
constant_result = shown_as constant_value

-- ## Debug information
abbrev pub anchor_result : Read AbsLineInfo → Result (AbsLineInfo × Cursor) Refusal
anchor_result = shown

abbrev pub local_at : RawLocal → LocalAt
local_at l = record { name = option_string l.name; startpc = l.startpc; endpc = l.endpc }

abbrev pub local_result : Read RawLocal → Result (LocalAt × Cursor) Refusal
local_result = shown_as local_at
