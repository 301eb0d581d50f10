-- The worked cases of 01 'reader.rs' that are marked P: inputs and results in a list, and one theorem over the list, which antt computes.
-- Assumes nothing.
use mathlib.Core.Path.{◌≡◌, refl}
use mathlib.Core.List.{List, [], ◌∷◌, ◌++◌, map}
use Prim.Native.Nat.{ℕ, ◌-◌, ◌^◌}
use lib.ListN.{replicate}
use Rattle.format.specs.declared.refusal.Refusal.TheVariants.{Truncated, VarintOverflow}
use Rattle.format.specs.Form.{Bytes}
use Rattle.format.specs.Read.{Read, ok, refused}
use Rattle.format.specs.ReadFields.{number}

-- bytes, and what reading a number at place 0 gives
record Case : Type 0 where
  input : Bytes
  result : Read ℕ

numbers : List Case
numbers =
    record { input = 0x80 ∷ []; result = ok 0 1 [] }
    ∷ record { input = 0xff ∷ []; result = ok 127 1 [] }
    ∷ record { input = 0x01 ∷ 0x80 ∷ []; result = ok 128 2 [] }
    ∷ record { input = 0x02 ∷ 0xac ∷ []; result = ok 300 2 [] }
    ∷ record { input = 0x00 ∷ 0x00 ∷ 0x80 ∷ []; result = ok 0 3 [] }
    ∷ record { input = 0x01 ∷ replicate 7 0x7f ++ 0x7e ∷ 0xff ∷ []; result = ok (2 ^ 64 - 129) 10 [] }
    ∷ record { input = 0x01 ∷ replicate 8 0x7f ++ 0x80 ∷ []; result = refused VarintOverflow }
    ∷ record { input = 0x01 ∷ replicate 8 0x7f; result = refused (Truncated 9) }
    ∷ []

numbers_hold : map (λ (c : Case). number 0 c.input) numbers ≡ map (λ (c : Case). c.result) numbers
unfolding numbers
numbers_hold = refl
