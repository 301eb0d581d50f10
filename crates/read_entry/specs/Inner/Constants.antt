-- A constant by its tag, of what was read behind it.
use Rattle.std.specs.Prelude.{Option, Some, None, Result, Ok, Err}
use Rattle.format.specs.declared.refusal.Refusal.{Refusal}
use Rattle.read_entry.specs.declared.constant.ConstantValue.{ConstantValue}
use Rattle.slice.specs.declared.cursor.Cursor.{Cursor}
use Rattle.std.specs.Prelude.{ℕ}
use Rattle.std.specs.Int.{w64}
use Rattle.std.proofs.Common.{to_z}
use Rattle.read_field.specs.declared.string.StringAt.{StringAt}
use Rattle.read_entry.specs.declared.constant.ConstantValue.TheVariants as constant

-- a string, or where it is absent an empty one at the place behind its size
abbrev pub or_empty : Option StringAt → ℕ → StringAt
or_empty (Some t) place = t
or_empty None place = record { place = place; len = 0 }

-- a constant by its tag, of what was read behind it
abbrev pub integer_of : Result (ℕ × Cursor) Refusal → Result (ConstantValue × Cursor) Refusal
integer_of (Ok (v, c)) = Ok ((constant.Integer (to_z w64 v)), c)
integer_of (Err q) = Err q

abbrev pub float_of : Result (ℕ × Cursor) Refusal → Result (ConstantValue × Cursor) Refusal
float_of (Ok (v, c)) = Ok ((constant.Float v), c)
float_of (Err q) = Err q

abbrev pub short_string_of : Result (Option StringAt × Cursor) Refusal → Result (ConstantValue × Cursor) Refusal
short_string_of (Ok (t, c)) = Ok ((constant.ShortString (or_empty t c.at)), c)
short_string_of (Err q) = Err q

abbrev pub long_string_of : Result (Option StringAt × Cursor) Refusal → Result (ConstantValue × Cursor) Refusal
long_string_of (Ok (t, c)) = Ok ((constant.LongString (or_empty t c.at)), c)
long_string_of (Err q) = Err q
