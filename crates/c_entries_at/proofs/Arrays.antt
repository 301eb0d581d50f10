-- The numbers of an array, and one behind them; a delta in 64 bits. Assumes nothing.
use mathlib.Core.Path.{◌≡◌, refl, ap}
use mathlib.Core.List.{List, [], ◌∷◌}
use Prim.Native.Nat.{ℕ, ◌+◌, ◌≤◌, ◌<◌}
use native.Mathlib.Omega.{arith}
use lib.ListN.{length, get_or}
use borrow.Author.Tests.{le-ltb}
use mir.Syntax.{w8}
use mir.Facts.{to_z_pos}
use Rattle.c_entries_at.specs.EntryNumbers.{up_to, delta_number}

pub up_to_two : (n : List ℕ) (x : ℕ) → length n ≡ 2 → get_or n 0 0 ∷ get_or n 1 0 ∷ x ∷ [] ≡ up_to n x
up_to_two [] x e = absurd (omega (arith, e))
up_to_two (a ∷ []) x e = absurd (omega (arith, e))
up_to_two (a ∷ b ∷ []) x e = refl
up_to_two (a ∷ b ∷ c ∷ n) x e = absurd (omega (arith, e))

pub up_to_three : (n : List ℕ) (x : ℕ) → length n ≡ 3 → get_or n 0 0 ∷ get_or n 1 0 ∷ get_or n 2 0 ∷ x ∷ [] ≡ up_to n x
up_to_three [] x e = absurd (omega (arith, e))
up_to_three (a ∷ n) x e = ap (λ (l : List ℕ). a ∷ l) (up_to_two n x (omega (arith, e)))

pub delta_up : (b : ℕ) → b < 128 → b ≡ delta_number b
delta_up b h = rw (to_z_pos w8 {n = b} h)

pub delta_down : (b : ℕ) → 128 ≤ b → b < 256 → 18446744073709551360 + b ≡ delta_number b
delta_down b h f = rw (le-ltb b 128 h) (omega arith)
