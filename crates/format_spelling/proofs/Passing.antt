-- A count, step by step behind what was read.
--     ran, gave        a reader that is made of two ran both; one that gives what it makes of another's value
--     past             a test that was passed
--     stepped          the count of the two is that of the one and that of the other
--     counted_none     items of which nothing is counted: the list's own count alone
-- Assumes nothing.
use mathlib.Core.Path.{◌≡◌, refl, ◌∙◌, ap}
use mathlib.Core.Bool.{Bool, true, false}
use Prim.Native.Nat.{ℕ, zero, suc}
use Rattle.format.specs.Form.{Bytes}
use Rattle.format.specs.declared.refusal.Refusal.{Refusal}
use Rattle.format.specs.Read.{Read, ok, refused, Reader, next, ◌>>=◌, ◌>>◌, give, test}
use Rattle.format.specs.ReadFields as field
use Rattle.format_spelling.specs.Spelling.{same, ◌⊕◌}
use Rattle.format_spelling.specs.ReadSpelling.{Count, none, plus, behind}
use Rattle.format_spelling.specs.ReadSpelling as count
use Rattle.format.proofs.Exact.{never}
use Rattle.format_spelling.proofs.Sums.{join_same}

pub record Ran {A B : Type 0} (r : Reader A) (f : A → Reader B) (at : ℕ) (s : Bytes) (y : B) (to : ℕ) (rest : Bytes) : Type 0 where
  pub value : A
  pub mid : ℕ
  pub left : Bytes
  pub one : r at s ≡ ok value mid left
  pub two : f value mid left ≡ ok y to rest

pub ran : {A B : Type 0} {r : Reader A} {f : A → Reader B} {at : ℕ} {s : Bytes} {y : B} {to : ℕ} {rest : Bytes} → (r >>= f) at s ≡ ok y to rest → Ran r f at s y to rest
ran {A} {r} {f} {at} {s} {y} {to} {rest} e = by (r at s) refl e
  where
    by : (o : Read A) → r at s ≡ o → next o f ≡ ok y to rest → Ran r f at s y to rest
    by (ok x mid t) is e = record { value = x; mid = mid; left = t; one = is; two = e }
    by (refused q) is e = absurd (never e)

pub record Gave {A B : Type 0} (r : Reader A) (g : A → B) (at : ℕ) (s : Bytes) (y : B) (to : ℕ) (rest : Bytes) : Type 0 where
  pub value : A
  pub one : r at s ≡ ok value to rest
  pub is : g value ≡ y

pub gave : {A B : Type 0} {r : Reader A} {g : A → B} {at : ℕ} {s : Bytes} {y : B} {to : ℕ} {rest : Bytes} → (r >>= λ x. give (g x)) at s ≡ ok y to rest → Gave r g at s y to rest
gave {A} {r} {g} {at} {s} {y} {to} {rest} e =
    let a : Ran r (λ x. give (g x)) at s y to rest = ran e in
    let two : ok (g a.value) a.mid a.left ≡ ok y to rest = a.two in
    let value : g a.value ≡ y = cc in
    let place : a.mid ≡ to = cc in
    let left : a.left ≡ rest = cc in
    record { value = a.value; one = a.one ∙ (λ i. ok a.value (place i) (left i)); is = value }

pub past : {B : Type 0} (b : Bool) (q : Refusal) (f : Reader B) (at : ℕ) (s : Bytes) {y : B} {to : ℕ} {rest : Bytes} → (test b q >> f) at s ≡ ok y to rest → f at s ≡ ok y to rest
past true q f at s e = e
past false q f at s e = absurd (never e)

pub stepped : {A : Type 0} (r : Reader A) (c : Count) (f : A → Count) (at : ℕ) (s : Bytes) {x : A} {to : ℕ} {rest : Bytes} → r at s ≡ ok x to rest → plus r c f at s ≡ c at s ⊕ f x to rest
stepped r c f at s e = ap (λ o. c at s ⊕ behind o f) e

pub many-none : {A : Type 0} (n : ℕ) (r : Reader A) (at : ℕ) (s : Bytes) → count.many n r none at s ≡ same
many-none zero r at s = refl
many-none {A} (suc n) r at s = by (r at s) (λ to rest. many-none n r to rest)
  where
    by : (o : Read A) → ((to : ℕ) (rest : Bytes) → count.many n r none to rest ≡ same) → same ⊕ behind o (λ x. count.many n r none) ≡ same
    by (ok x to rest) more = ap (λ a. same ⊕ a) (more to rest)
    by (refused q) more = refl

pub counted_none : {A : Type 0} (r : Reader A) (at : ℕ) (s : Bytes) → count.counted r none at s ≡ count.number at s
counted_none r at s = by (field.number at s) ∙ join_same (count.number at s)
  where
    by : (o : Read ℕ) → count.number at s ⊕ behind o (λ n. count.many n r none) ≡ count.number at s ⊕ same
    by (ok n to rest) = ap (λ a. count.number at s ⊕ a) (many-none n r to rest)
    by (refused q) = refl
