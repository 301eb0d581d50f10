-- A local variable's name, of the code's values.
use Rattle.std.specs.Prelude.{Option, Some, None}
use Rattle.read_field.specs.declared.string.StringAt.{StringAt}
use Rattle.std.specs.Prelude.{[], ◌∷◌, ℕ, ◌-◌, ◌≤◌, take, drop}
use Rattle.format.specs.Form.{Bytes}

abbrev pub name_length : Option StringAt → ℕ
name_length (Some t) = t.len
name_length None = 1

abbrev pub name_bytes : Option StringAt → Bytes → Bytes
name_bytes (Some t) s = take t.len (drop t.place s)
name_bytes None s = 63 ∷ []

-- a name lies within a slice of this length
abbrev pub Stands : Option StringAt → ℕ → Type 0
Stands (Some t) size = t.len ≤ size - t.place
Stands None size = Unit {0}
