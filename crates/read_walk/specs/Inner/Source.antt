-- What is said of a function's source, which the code shows by its place in the slice s and its length.
--     Stands s t           s has the bytes of the source t at its place
--     SameString, ParentsOwn   the test of two strings, and of one with the parent's source
--     source_at limit s at  the source that is spelt at the place; none where no string can be read there
--     repeats_at            whether the one that is spelt at a place is the one that is spelt at another
--     unpadded_at s at      the place behind the zero groups from the place on
--     handed               where the source is spelt that the functions in a function inherit: at the function's own place, or where its parent's is
use Rattle.std.specs.Prelude as prelude
use Rattle.std.specs.Prelude.{◌≡◌, Bool, false, cond, [], ◌∷◌, ℕ, ◌+◌, ◌-◌, ◌≤◌, eqb, length, take, drop}
use Rattle.std.proofs.Math.Option.{Option, none, some}
use Rattle.format.specs.Form.{Bytes}
use Rattle.format.specs.GrammarFields.{LuaString}
use Rattle.format.specs.Read.{Read, ok, refused}
use Rattle.format.specs.ReadFields.{string}
use Rattle.format.specs.ReadHeader.{same_bytes}
use Rattle.format.specs.FullCopy.{equal_sources}
use Rattle.read_field.specs.declared.string.StringAt.{StringAt}
use Rattle.read_field.specs.Shown.{option_string}

abbrev pub Stands : Bytes → Option LuaString → Type 0
Stands s none = Unit {0}
Stands s (some t) = (length t.bytes ≤ length s - t.place) × (take (length t.bytes) (drop t.place s) ≡ t.bytes)

abbrev pub string_at : LuaString → StringAt
string_at t = record { place = t.place; len = length t.bytes }

pub record SameString (s : Bytes) (first second : StringAt) (r : Bool) : Type 0 where
  pub is : (t u : LuaString) → first ≡ string_at t → second ≡ string_at u → Stands s (some t) → Stands s (some u) → r ≡ same_bytes t.bytes u.bytes

pub record ParentsOwn (s : Bytes) (spelt : StringAt) (parent : prelude.Option StringAt) (r : Bool) : Type 0 where
  pub is : (t : LuaString) (p : Option LuaString) → spelt ≡ string_at t → parent ≡ option_string p → Stands s (some t) → Stands s p → r ≡ equal_sources (some t) p

abbrev pub spelt : Read (Option LuaString) → Option LuaString
spelt (ok t to rest) = t
spelt (refused q) = none

abbrev pub source_at : ℕ → Bytes → ℕ → Option LuaString
source_at limit s at = spelt (string limit at (drop at s))

abbrev pub repeats : Option LuaString → Option LuaString → Bool
repeats none parent = false
repeats (some t) parent = equal_sources (some t) parent

abbrev pub repeats_at : ℕ → Bytes → ℕ → ℕ → Bool
repeats_at limit s own parent = repeats (source_at limit s own) (source_at limit s parent)

abbrev pub zeros : Bytes → ℕ
zeros [] = 0
zeros (x ∷ s) = cond (eqb x 0) (zeros s + 1) 0

abbrev pub unpadded_at : Bytes → ℕ → ℕ
unpadded_at s at = at + zeros (drop at s)

abbrev pub handed : Bool → ℕ → ℕ → ℕ
handed named own parent = cond named own parent
