-- The copy's bytes of a string that is shown by its place in the slice s and its length.
--     There s t        s has its bytes
--     spelt s t        its size and its bytes, or the size of an absent one
--     spelt_name s t    the same, with `?` for an absent one
use Rattle.std.specs.Prelude.{[], ◌∷◌, ◌++◌, suc, ◌-◌, ◌≤◌, length, take, drop, Option, Some, None}
use Rattle.read_field.specs.declared.string.StringAt.{StringAt}
use Rattle.format.specs.Form.{Bytes}
use Rattle.format.specs.Shortest.{shortest}

abbrev pub There : Bytes → Option StringAt → Type 0
There s None = Unit {0}
There s (Some t) = t.len ≤ length s - t.place

abbrev pub spelt : Bytes → Option StringAt → Bytes
spelt s None = shortest 0
spelt s (Some t) = shortest (suc t.len) ++ take t.len (drop t.place s)

abbrev pub spelt_name : Bytes → Option StringAt → Bytes
spelt_name s None = shortest 2 ++ (63 ∷ [])
spelt_name s (Some t) = spelt s (Some t)
