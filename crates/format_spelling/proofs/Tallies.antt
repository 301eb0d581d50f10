-- Counting in lent memory, step by step behind what was read.
--     room-..          there is room: at the start, behind what was read, for one more
--     adds-on, ..      from what the code leaves to the count, and back
--     adds_then        two readers, one behind the other: what both add
--     adds_stop        the first of them refuses: nothing is to be said
-- Assumes nothing.
use mathlib.Core.Path.{◌≡◌, refl, sym, subst, ◌∙◌, ap}
use mathlib.Core.List.{List, [], ◌∷◌}
use Prim.Native.Nat.{ℕ, ◌+◌, ◌^◌, ◌≤◌, ◌<◌}
use native.Mathlib.Omega.{arith}
use Rattle.format.specs.declared.refusal.Refusal.{Refusal}
use Rattle.format.specs.declared.spelling.Spelling.{Spelling}
use Rattle.format.specs.Form.{Bytes}
use Rattle.format.specs.Read.{Read, ok, refused, Reader, next, ◌>>=◌}
use Rattle.format.proofs.Exact.{never}
use Rattle.format_spelling.specs.Spelling.{same, ◌⊕◌}
use Rattle.format_spelling.specs.ReadSpelling.{Count, none, plus, behind}
use Rattle.format_spelling.specs.Inner.Tally.{counts, Between, Room, Fits, Adds}
use Rattle.format_spelling.proofs.Sums.{join_same, join_assoc}
use Rattle.format_spelling.proofs.Covers.{Covers, between_join}

-- ## Room
-- who does not count lends four numbers that nobody reads
pub room_unused : (at : ℕ) → Room (0 ∷ 0 ∷ 0 ∷ 0 ∷ []) at
room_unused at = record { room = record { padded = omega arith; filled = omega arith; sources = omega arith; repeated = omega arith } }

pub room-more : {t : List ℕ} {at to : ℕ} → Room t at → at ≤ to → Room t to
room-more r h = let b = r.room in record { room = record { padded = omega (arith, b.padded); filled = omega (arith, b.filled); sources = omega (arith, b.sources); repeated = omega (arith, b.repeated) } }

-- what `add` asks
pub room_fits : {t : List ℕ} {n : Spelling} {at to : ℕ} → Room t at → Between n at to → to < 2 ^ 64 → Fits (counts t) n
room_fits r b l = let a = r.room in record { padded = omega (arith, a.padded, b.padded); filled = omega (arith, a.filled, b.filled); sources = omega (arith, a.sources, b.sources); repeated = omega (arith, a.repeated, b.repeated) }

-- behind what was read
pub room-on : {A : Type 0} {r : Reader A} {c : Count} → Covers r c → {t t' : List ℕ} (at : ℕ) (s : Bytes) {x : A} {to : ℕ} {rest : Bytes} → Room t at → r at s ≡ ok x to rest → Adds (r at s) (c at s) t t' → Room t' to
room-on covers at s {to = to} room is adds = record { room = subst (λ a. Between a 0 to) (sym (adds.adds is)) (between_join room.room (covers.covers at s is)) }

-- ## What the code leaves
pub adds-not : {A : Type 0} {o : Read A} {n : Spelling} {t t' : List ℕ} {q : Refusal} → o ≡ refused q → Adds o n t t'
adds-not e = record { adds = λ is. absurd (never (sym e ∙ is)) }

pub adds-all : {A : Type 0} {o : Read A} {n : Spelling} {t t' : List ℕ} → counts t' ≡ counts t ⊕ n → Adds o n t t'
adds-all h = record { adds = λ is. h }

-- nothing is counted
pub adds_none : {A : Type 0} {o : Read A} {t : List ℕ} → Adds o same t t
adds_none {t = t} = adds-all (sym (join_same (counts t)))

-- what is read, or the count, may be said otherwise
pub adds_as : {A : Type 0} {o : Read A} {n m : Spelling} {t t' : List ℕ} → n ≡ m → Adds o n t t' → Adds o m t t'
adds_as {o = o} {t = t} {t' = t'} e = subst (λ k. Adds o k t t') e

pub adds-of : {A : Type 0} {o p : Read A} {n : Spelling} {t t' : List ℕ} → o ≡ p → Adds o n t t' → Adds p n t t'
adds-of {n = n} {t = t} {t' = t'} e = subst (λ x. Adds x n t t') e

-- what is made of the value adds nothing
pub adds-value : {A B : Type 0} (o : Read A) (f : A → Reader B) {n : Spelling} {t t' : List ℕ} → Adds o n t t' → Adds (next o f) n t t'
adds-value {A} o f {n} {t} {t'} a = by o a
  where
    by : (o : Read A) → Adds o n t t' → Adds (next o f) n t t'
    by (ok x to rest) a = adds-all (a.adds refl)
    by (refused q) a = adds-not refl

-- ## Two readers, one behind the other
module _ {A B : Type 0} (r : Reader A) (c : Count) (f : A → Reader B) (d : A → Count) (at : ℕ) (s : Bytes) where
  pub adds_then : {t t₁ t₂ : List ℕ} {x : A} {mid : ℕ} {rest : Bytes} → r at s ≡ ok x mid rest → Adds (r at s) (c at s) t t₁ → Adds (f x mid rest) (d x mid rest) t₁ t₂ → Adds ((r >>= f) at s) (plus r c d at s) t t₂
  adds_then {t} {t₁} {t₂} {x} {mid} {rest} is one two = subst (λ o. Adds (next o f) (c at s ⊕ behind o d) t t₂) (sym is)
      (record { adds = λ e. two.adds e ∙ ap (λ a. a ⊕ d x mid rest) (one.adds is) ∙ join_assoc (counts t) (c at s) (d x mid rest) })

  pub adds_stop : {n : Spelling} {t t' : List ℕ} {q : Refusal} → r at s ≡ refused q → Adds ((r >>= f) at s) n t t'
  adds_stop is = adds-not (ap (λ o. next o f) is)
