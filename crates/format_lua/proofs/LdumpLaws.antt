-- Our shortest spelling is what ldump.c's `dumpSize` writes.
-- Assumes nothing.
use mathlib.Core.Path.{◌≡◌, refl, ◌∙◌, ap}
use mathlib.Core.Bool.{Bool, true, false}
use mathlib.Core.List.{[], ◌∷◌, ◌++◌, append_assoc}
use Prim.Native.Nat.{ℕ, zero, suc, ◌/◌, ◌%◌, ◌^◌, ◌≤◌, ◌<◌}
use native.Mathlib.Omega.{arith}
use native.Mathlib.Nat.{suc_inj}
use lib.Bits.{bit_or, and_mask, or_shifted_r}
use lib.Dec.{eqb}
use borrow.Author.Tests.{eqb-true, eqb-false}
use Rattle.format.specs.Form.{Bytes}
use Rattle.format.specs.Shortest.{groups_of, shortest}
use Rattle.format_lua.specs.Ldump.{dump_size_loop, mark_last, dump_size}
use Rattle.format.proofs.ShortestLaws.{groups_none, div_high}

groups_some : (f n : ℕ) → (n ≡ 0 → ⊥) → groups_of (suc f) n ≡ groups_of f (n / 128) ++ n % 128 ∷ []
groups_some f zero some = absurd (some refl)
groups_some f (suc n) some = refl

-- the loop fills in the groups above the last, and the last
abbrev Filled : ℕ → ℕ → ℕ → Bytes → Type 0
Filled free x f buff = dump_size_loop (suc free) x buff ≡ groups_of f (x / 128) ++ x % 128 ∷ buff

-- one turn: done where no bits are left, else on, by the law for what is left
turn : (free x f : ℕ) (buff : Bytes) → x < 128 ^ suc free → x / 128 ≤ f → ((k g : ℕ) → free ≡ suc k → f ≡ suc g → Filled k (x / 128) g (x % 128 ∷ buff)) → (t : Bool) → eqb (x / 128) 0 ≡ t → Filled free x f buff
turn free x f buff fits fuel later true e = rw (e, and_mask x 7, eqb-true (x / 128) 0 e, groups_none f)
turn zero x f buff fits fuel later false e = absurd (eqb-false (x / 128) 0 e (omega arith))
turn (suc free) x zero buff fits fuel later false e = absurd (eqb-false (x / 128) 0 e (omega arith))
turn (suc free) x (suc f) buff fits fuel later false e = rw (e, and_mask x 7, groups_some f (x / 128) (eqb-false (x / 128) 0 e), append_assoc) (later free f refl refl)

filled : (free x f : ℕ) (buff : Bytes) → x < 128 ^ suc free → x / 128 ≤ f → Filled free x f buff
filled zero x f buff fits fuel = turn zero x f buff fits fuel (λ k g e. absurd (omega arith)) (eqb (x / 128) 0) refl
filled (suc free) x zero buff fits fuel = turn (suc free) x zero buff fits fuel (λ k g e h. absurd (omega arith)) (eqb (x / 128) 0) refl
filled (suc free) x (suc f) buff fits fuel =
    turn (suc free) x (suc f) buff fits fuel
    (λ k g e h. rw (← suc_inj e, ← suc_inj h) (filled free (x / 128) f (x % 128 ∷ buff) (div_high (suc free) x fits) (omega arith)))
    (eqb (x / 128) 0) refl

mark_end : (xs : Bytes) (y : ℕ) → mark_last (xs ++ y ∷ []) ≡ xs ++ bit_or y 0x80 ∷ []
mark_end [] y = refl
mark_end (x ∷ []) y = refl
mark_end (x ∷ z ∷ xs) y = ap (λ (l : Bytes). x ∷ l) (mark_end (z ∷ xs) y)

pub dumped : (v : ℕ) → v < 2 ^ 64 → dump_size v ≡ shortest v
unfolding dump_size shortest
dumped v fits = ap mark_last (filled 9 v v [] (omega arith) (omega arith)) ∙ mark_end (groups_of v (v / 128)) (v % 128) ∙ ap (λ (k : ℕ). groups_of v (v / 128) ++ k ∷ []) (or_shifted_r 1 7 (v % 128) (omega arith))
