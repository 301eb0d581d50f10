-- No count exceeds the bytes that its reader passes over, for readers that are cut otherwise than the grammar is (`Few.antt`): one law for each way to make a reader.
--     Covers r c           so it is of whatever r passes over, of which c is the count
-- Assumes nothing.
use mathlib.Core.Path.{◌≡◌, refl}
use Prim.Native.Nat.{ℕ}
use native.Mathlib.Omega.{arith}
use Rattle.format.specs.Form.{Bytes, Form, Then}
use Rattle.format.specs.GrammarFields.{Number}
use Rattle.format.specs.Read.{Read, ok, refused, Reader, next, ◌>>=◌}
use Rattle.format.specs.declared.spelling.Spelling.{Spelling}
use Rattle.format_spelling.specs.Spelling.{◌⊕◌, Tally}
use Rattle.format_spelling.specs.ReadSpelling.{Count, none, plus, behind}
use Rattle.format_spelling.specs.ReadSpelling as count
use Rattle.format_spelling.specs.Inner.Tally.{Between}
use Rattle.format.proofs.Exact.{Exact, never}
use Rattle.format_spelling.proofs.SpellingLaws.{Tells, tells_none, tells_last, tells_number}
use Rattle.format_spelling.proofs.Few.{Few, few_none, few_both, few_number, bounded}

pub between_join : {a b : Spelling} {at mid to : ℕ} → Between a at mid → Between b mid to → Between (a ⊕ b) at to
between_join x y = record { padded = omega (arith, x.padded, y.padded); filled = omega (arith, x.filled, y.filled); sources = omega (arith, x.sources, y.sources); repeated = omega (arith, x.repeated, y.repeated) }

pub record Covers {A : Type 0} (r : Reader A) (c : Count) : Type 0 where
  pub covers : (at : ℕ) (s : Bytes) {x : A} {to : ℕ} {rest : Bytes} → r at s ≡ ok x to rest → Between (c at s) at to

pub covers_few : {A : Type 0} {r : Reader A} {F : Form A} {c : Count} {p : Tally F} → Exact r F → Tells c p → Few p → Covers r c
covers_few exact tells few = record {
  covers = λ at s e.
      let b = bounded exact tells few {at = at} {s = s} e in
      let k = b.2 in
      record { padded = omega (arith, b.1, k.padded); filled = omega (arith, b.1, k.filled); sources = omega (arith, b.1, k.sources); repeated = omega (arith, b.1, k.repeated) };
}

-- nothing is counted
pub covers_none : {A : Type 0} {r : Reader A} {F : Form A} → Exact r F → Covers r none
covers_none exact = covers_few exact tells_none few_none

-- of what begins with a number that number alone
pub covers_number : {A : Type 0} {r : Reader A} {G : ℕ → Form A} → Exact r (Then Number G) → Covers r count.number
covers_number exact = covers_few exact (tells_last tells_number) (few_both few_number λ _. few_none)

-- one reader behind another
module _ {A B : Type 0} {r : Reader A} {c : Count} {f : A → Reader B} {d : A → Count} (one : Covers r c) (two : (x : A) → Covers (f x) (d x)) where
  pub covers_then : Covers (r >>= f) (plus r c d)
  covers_then = record { covers = λ at s e. by at s (r at s) refl e }
    where
      by : (at : ℕ) (s : Bytes) {y : B} {to : ℕ} {rest : Bytes} (o : Read A) → r at s ≡ o → next o f ≡ ok y to rest → Between (c at s ⊕ behind o d) at to
      by at s (ok x mid t) is e = between_join (one.covers at s is) ((two x).covers mid t e)
      by at s (refused q) is e = absurd (never e)

-- the same, where the second is not counted
module _ {A B : Type 0} {r : Reader A} {c : Count} {f : A → Reader B} (one : Covers r c) (two : (x : A) → Covers (f x) none) where
  pub covers_last : Covers (r >>= f) c
  covers_last = record { covers = λ at s e. by at s (r at s) refl e }
    where
      by : (at : ℕ) (s : Bytes) {y : B} {to : ℕ} {rest : Bytes} (o : Read A) → r at s ≡ o → next o f ≡ ok y to rest → Between (c at s) at to
      by at s (ok x mid t) is e =
          let a = one.covers at s is in
          let b = (two x).covers mid t e in
          record { padded = omega (arith, a.padded, b.padded); filled = omega (arith, a.filled, b.filled); sources = omega (arith, a.sources, b.sources); repeated = omega (arith, a.repeated, b.repeated) }
      by at s (refused q) is e = absurd (never e)
