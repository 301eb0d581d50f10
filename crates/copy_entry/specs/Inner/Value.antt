-- The copy's bytes of a constant that is shown by its value and stands between two places of the slice s.
--     Stood s first end v      a string's bytes are in s; any other constant's too
--     value_bytes s first end v   a string behind its tag; of any other constant the bytes that stand there
use Rattle.std.specs.Prelude.{◌∷◌, ◌++◌, ℕ, suc, ◌-◌, ◌≤◌, length, take, drop}
use Rattle.format.specs.Form.{Bytes}
use Rattle.format.specs.Shortest.{shortest}
use Rattle.read_entry.specs.declared.constant.ConstantValue.{ConstantValue}
use Rattle.read_entry.specs.declared.constant.ConstantValue.TheVariants.{Nil, Boolean, Integer, Float, ShortString, LongString}

abbrev pub Stood : Bytes → ℕ → ℕ → ConstantValue → Type 0
Stood s first end (ShortString t) = t.len ≤ length s - t.place
Stood s first end (LongString t) = t.len ≤ length s - t.place
Stood s first end Nil = (first ≤ end) × (end ≤ length s)
Stood s first end (Boolean b) = (first ≤ end) × (end ≤ length s)
Stood s first end (Integer n) = (first ≤ end) × (end ≤ length s)
Stood s first end (Float n) = (first ≤ end) × (end ≤ length s)

abbrev pub value_bytes : Bytes → ℕ → ℕ → ConstantValue → Bytes
value_bytes s first end (ShortString t) = 4 ∷ (shortest (suc t.len) ++ take t.len (drop t.place s))
value_bytes s first end (LongString t) = 20 ∷ (shortest (suc t.len) ++ take t.len (drop t.place s))
value_bytes s first end Nil = take (end - first) (drop first s)
value_bytes s first end (Boolean b) = take (end - first) (drop first s)
value_bytes s first end (Integer n) = take (end - first) (drop first s)
value_bytes s first end (Float n) = take (end - first) (drop first s)
