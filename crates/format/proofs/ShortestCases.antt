-- 01's worked numbers ('reader.rs') the other way: the bytes that a copy writes for a number, one theorem over the list, which antt computes.
-- Told apart: a leading zero, the low group first, the mark on another byte, one byte too many at a power of 128.
-- Assumes nothing.
use mathlib.Core.Path.{◌≡◌, refl}
use mathlib.Core.List.{List, [], ◌∷◌, ◌++◌, map}
use Prim.Native.Nat.{ℕ, ◌-◌, ◌^◌}
use lib.ListN.{replicate}
use Rattle.format.specs.Form.{Bytes}
use Rattle.format.specs.Shortest.{groups_of, shortest}

numbers : List (ℕ × Bytes)
numbers =
    (0, 0x80 ∷ [])
    ∷ (127, 0xff ∷ [])
    ∷ (128, 0x01 ∷ 0x80 ∷ [])
    ∷ (300, 0x02 ∷ 0xac ∷ [])
    ∷ (16383, 0x7f ∷ 0xff ∷ [])
    ∷ (16384, 0x01 ∷ 0x00 ∷ 0x80 ∷ [])
    ∷ (2 ^ 64 - 129, 0x01 ∷ replicate 7 0x7f ++ 0x7e ∷ 0xff ∷ [])
    ∷ []

numbers_hold : map (λ c. shortest c.0) numbers ≡ map (λ c. c.1) numbers
unfolding numbers shortest
numbers_hold = refl
