-- A wrong reader that Mends.antt refuses and demand 1's other laws let pass: of the version's byte, one wrong value
-- (55) is named as the size of instructions (7), at its own place.
--     misfielded_in_order, misfielded_steady, misfielded_continues     it passes Order.antt, CutShort.antt,
-- Continued.antt; it knows no limits, so ByLimits.antt, Blame.antt and Fault.antt say nothing of it
--     not_misfielded       and is refused by Mends.antt
-- Assumes nothing.
use mathlib.Core.Path.{◌≡◌, refl, sym}
use mathlib.Core.Bool.{Bool, true, false, cond}
use mathlib.Core.List.{[], ◌∷◌, ◌++◌}
use Prim.Native.Nat.{ℕ, ◌+◌, ◌<◌}
use native.Mathlib.Nat.{add-zero}
use native.Mathlib.Omega.{arith}
use lib.Dec.{eqb}
use lib.ListN.{length}
use borrow.Author.Tests.{eqb-true, eqb-false}
use Rattle.format.specs.declared.limits.ResourceLimits.{ResourceLimits}
use Rattle.format.specs.declared.refusal.Refusal.{Refusal}
use Rattle.format.specs.declared.refusal.Refusal.TheVariants as q
use Rattle.format.specs.Form.{Bytes}
use Rattle.format.specs.Refusals.{reported}
use Rattle.format.specs.GrammarFields.{Field}
use Rattle.format.specs.Read.{Reader, ◌>>=◌, give, here, test}
use Rattle.format.specs.ReadFields.{byte}
use Rattle.format.proofs.ExactFields.{exact_field}
use Rattle.demands.proofs.Causes.{ordinary, cause_by, Ends}
use Rattle.demands.proofs.InOrder.{Steady, Tested, tested, own, steady_give, steady_here, steady_then, steady_test, steady_field}
use Rattle.demands.proofs.Early.{Early, early_field, early_first, early_give, soon_early, soon_test, read_byte}
use Rattle.demands.proofs.Order.{decided, InByteOrder}
use Rattle.demands.proofs.Continued.{Judged, Continues, on-here, on_then, on-field}
use Rattle.demands.proofs.Fault.{Mild}
use Rattle.demands.proofs.Mends.{Mends, right}

abbrev pub named : ℕ → ℕ → Refusal
named place b = cond (eqb b 0x55) (q.InstructionSize place) (q.Version place)

abbrev pub misfielded : Reader (Unit {0})
misfielded = here >>= λ place. byte >>= λ b. test (eqb b 0x54) (named place b) >>= λ _. give tt

named_tested : (place b : ℕ) → Tested ordinary place (named place b)
named_tested place b = by (eqb b 0x55)
  where
    by : (t : Bool) → Tested ordinary place (cond t (q.InstructionSize place) (q.Version place))
    by true = tested (q.InstructionSize place) refl refl own
    by false = tested (q.Version place) refl refl own

pub misfielded_steady : Steady ordinary 0 misfielded
misfielded_steady = steady_here λ place. steady_then (steady_field 1 refl) λ b. steady_then (steady_test (eqb b 0x54) (named place b) (named_tested place b)) λ _. steady_give tt

module _ (L : ResourceLimits) where
  cause : (place b : ℕ) (bytes : Bytes) → Field 1 place bytes b → eqb b 0x54 ≡ false
      → Ends (cause_by ordinary L (named place b)) place (bytes ++ [])
  cause place b bytes d other = by (eqb b 0x55) refl
    where
      by : (t : Bool) → eqb b 0x55 ≡ t → Ends (cause_by ordinary L (cond t (q.InstructionSize place) (q.Version place))) place (bytes ++ [])
      by true t = record { before = []; others = b ∷ []; whole = read_byte place bytes b d; begins = sym (add-zero place); long = refl; differs = λ e. (let is = eqb-true b 0x55 t in let four : b ≡ 4 = cc in omega arith) }
      by false t = record { before = []; others = b ∷ []; whole = read_byte place bytes b d; begins = sym (add-zero place); long = refl; differs = λ e. (let is : b ≡ 0x54 = cc in eqb-false b 0x54 other is) }

  misfielded_early : Early ordinary L misfielded
  misfielded_early = early_first (λ place b. test (eqb b 0x54) (named place b) >>= λ _. give tt) (exact_field 1) (early_field 1) λ place b bytes d. soon_test (give tt) (eqb b 0x54) (named place b) (cause place b bytes d) (soon_early (early_give tt))

  pub misfielded_in_order : InByteOrder L misfielded
  misfielded_in_order s p e = decided L misfielded misfielded_steady misfielded_early 0 s p e

named_late : (place b : ℕ) → 2 < (reported (named place b)).number
named_late place b = by (eqb b 0x55)
  where
    by : (t : Bool) → 2 < (reported (cond t (q.InstructionSize place) (q.Version place))).number
    by true = omega arith
    by false = omega arith

pub misfielded_continues : Continues misfielded
misfielded_continues =
    on-here λ place. on_then (exact_field 1) (on-field 1) λ b. record { on = λ at s. ([], go at s (named place b) (eqb b 0x54) (named_late place b)) }
  where
    go : (at : ℕ) (s : Bytes) (p : Refusal) (t : Bool) → 2 < (reported p).number → Judged ((test t p >>= λ _. give {A = Unit {0}} tt) at (s ++ []))
    go at s p true h = tt
    go at s p false h = h

pub not_misfielded : Mends misfielded → ⊥
not_misfielded mends =
    let c = mends.mended 0 (0x55 ∷ []) (q.InstructionSize 0) refl refl in go c.before c.begins c.mild
  where
    go : (before : Bytes) → 0 ≡ 0 + length before → Mild (misfielded 0 (before ++ right 7)) → ⊥
    go [] e k = let z : ◌≡◌ {A = ℕ} 0 1 = cc in omega arith
    go (b ∷ before) e k = omega (arith, e)
