-- A string as the copy fills it, in the code's terms: one place where it is absent (crates/format_spelling/specs/Spelling.antt: `filling`).
use Rattle.std.specs.Prelude.{Option, Some, None}
use Rattle.read_field.specs.declared.string.StringAt.{StringAt}
use Rattle.format.specs.declared.spelling.Spelling.{Spelling}
use Rattle.format_spelling.specs.Spelling.{same}

abbrev pub of_string : Option StringAt → Spelling
of_string None = record { padded = 0; filled = 1; sources = 0; repeated = 0 }
of_string (Some t) = same
