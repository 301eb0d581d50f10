-- What the code shows of what a reader of `format` gives: the value and the cursor behind it, or the refusal.
use Rattle.std.specs.Prelude.{Bool, ℕ, length, Option, Some, None, Result, Ok, Err}
use Rattle.std.proofs.Math.Option as maybe
use Rattle.format.specs.declared.refusal.Refusal.{Refusal}
use Rattle.format.specs.GrammarFields.{LuaString}
use Rattle.format.specs.Read.{Read, ok, refused}
use Rattle.slice.specs.declared.cursor.Cursor.{Cursor}
use Rattle.slice.specs.Shown.{cursor_at}
use Rattle.read_field.specs.declared.string.StringAt.{StringAt}

-- of the value, what `of` shows of it
abbrev pub shown_as : {A B : Type 0} → (A → B) → Read A → Result (B × Cursor) Refusal
shown_as of (ok v to rest) = Ok (of v, cursor_at to)
shown_as of (refused q) = Err q

abbrev pub shown : {A : Type 0} → Read A → Result (A × Cursor) Refusal
shown (ok v to rest) = Ok (v, cursor_at to)
shown (refused q) = Err q

-- of a number whether it is padded, too
abbrev pub number_result : Bool → Read ℕ → Result (ℕ × Cursor × Bool) Refusal
number_result padded (ok v to rest) = Ok (v, cursor_at to, padded)
number_result padded (refused q) = Err q

-- of a string its place and length
abbrev pub option_string : maybe.Option LuaString → Option StringAt
option_string maybe.none = None
option_string (maybe.some t) = Some (record { place = t.place; len = length t.bytes })

abbrev pub string_result : Read (maybe.Option LuaString) → Result (Option StringAt × Cursor) Refusal
string_result = shown_as option_string
