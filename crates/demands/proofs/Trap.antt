-- A wrong reader: 01's trap 'cut short reported before a limit'. It looks for a list's items first, and tests the count's limit behind them.
--     accepts_the_same     it accepts exactly what the right one accepts, so that demand 3 says nothing of it
--     not_the_trap         it is not in byte order (Order.antt); `in_order`: the right one is
-- Assumes nothing.
use mathlib.Core.Path.{◌≡◌, refl, sym, ◌∙◌, ap}
use mathlib.Core.Bool.{Bool, true, false}
use mathlib.Core.List.{List, [], ◌∷◌, ◌++◌}
use mathlib.Core.Logic.{◌↔◌}
use Prim.Native.Nat.{ℕ, ◌≤◌, ◌<◌}
use native.Mathlib.Omega.{arith}
use lib.Dec.{leb}
use lib.ListN.{length}
use Rattle.format.specs.declared.limits.ResourceLimits.{ResourceLimits}
use Rattle.format.specs.declared.refusal.Refusal.{Refusal}
use Rattle.format.specs.declared.refusal.Refusal.TheVariants as q
use Rattle.format.specs.Form.{Bytes, Below}
use Rattle.format.specs.GrammarFields.{Number}
use Rattle.format.specs.GrammarChunk.{Listed}
use Rattle.format.specs.Read.{Read, ok, refused, Reader, next, ◌>>=◌, ◌>>◌, give, here, test, at_most, many}
use Rattle.format.specs.ReadFields.{byte, number}
use Rattle.format.specs.ReadChunk.{counted_up_to}
use Rattle.format.proofs.ExactFields.{exact_field}
use Rattle.demands.proofs.Causes.{LastNumber}
use Rattle.demands.proofs.InOrder.{tested, own, steady_field, steady_counted_up_to}
use Rattle.demands.proofs.Early.{early_field, early_counted_up_to}
use Rattle.demands.proofs.Order.{decided, InByteOrder}

abbrev pub items : {A : Type 0} → ℕ → Reader A → Reader (Listed A)
items n r = do
  place ← here
  xs ← many n r
  give (record { place = place; items = xs })

abbrev pub late : {A : Type 0} → ℕ → (ℕ → Refusal) → Reader A → Reader (Listed A)
late limit refusal r = do
  first ← here
  n ← number
  l ← items n r
  at_most n limit (refusal first)
  give l

-- ## It accepts what the right one accepts, with the same value
module _ {A : Type 0} (limit : ℕ) (refusal : ℕ → Refusal) (r : Reader A) (at : ℕ) where
  by_test : (b : Bool) (q : Refusal) (p : ℕ) (t : Bytes) (o : Read (Listed A)) (x : Listed A) (to : ℕ) (rest : Bytes)
      → (next (test b q p t) (λ _ _ _. o) ≡ ok x to rest) ↔ (next o (λ l. test b q >> give l) ≡ ok x to rest)
  by_test true q p t (ok l u s) x to rest = (λ e. e, λ e. e)
  by_test true q p t (refused k) x to rest = (λ e. e, λ e. e)
  by_test false q p t (ok l u s) x to rest = (λ e. absurd (let z : ◌≡◌ {A = ℕ} 0 1 = cc in omega arith), λ e. absurd (let z : ◌≡◌ {A = ℕ} 0 1 = cc in omega arith))
  by_test false q p t (refused k) x to rest = (λ e. absurd (let z : ◌≡◌ {A = ℕ} 0 1 = cc in omega arith), λ e. absurd (let z : ◌≡◌ {A = ℕ} 0 1 = cc in omega arith))

  same : (b : Bool) (q : Refusal) (n p : ℕ) (t : Bytes) → (test b q >> items n r) p t ≡ next (test b q p t) (λ _ _ _. items n r p t)
  same true q n p t = refl
  same false q n p t = refl

  by_number : (o : Read ℕ) (x : Listed A) (to : ℕ) (rest : Bytes)
      → (next o (λ n. at_most n limit (refusal at) >> items n r) ≡ ok x to rest) ↔ (next o (λ n. items n r >>= λ l. at_most n limit (refusal at) >> give l) ≡ ok x to rest)
  by_number (ok n p t) x to rest =
      let law = by_test (leb n limit) (refusal at) p t (items n r p t) x to rest in
      let e = same (leb n limit) (refusal at) n p t in
      (λ h. law.0 (sym e ∙ h), λ h. e ∙ law.1 h)
  by_number (refused q) x to rest = (λ e. e, λ e. e)

  pub accepts_the_same : (s : Bytes) (x : Listed A) (to : ℕ) (rest : Bytes) → (counted_up_to limit refusal r at s ≡ ok x to rest) ↔ (late limit refusal r at s ≡ ok x to rest)
  accepts_the_same s x to rest = by_number (number at s) x to rest

-- ## The right one is in byte order, under its own limit
pub in_order : (L : ResourceLimits) → InByteOrder L (counted_up_to L.max_constants_per_proto q.Constants byte)
in_order L s p e =
    let limit = L.max_constants_per_proto in
    decided L (counted_up_to limit q.Constants byte) (steady_counted_up_to limit q.Constants (λ first. tested (q.Constants first) refl refl own) λ low. steady_field 1 refl) (early_counted_up_to limit q.Constants (λ place. refl) (exact_field 1) (early_field 1)) 0 s p e

-- ## The wrong one is not, whatever the limits: with a limit of 0 for the constants the two differ in the order alone
-- a list of one item, under a limit of 0
pub cut-short_first : (late 0 q.Constants byte 0 (0x81 ∷ []) ≡ refused (q.Truncated 1)) × (late 0 q.Constants byte 0 (0x81 ∷ 0 ∷ []) ≡ refused (q.Constants 0))
cut-short_first = (refl, refl)

-- a number whose first byte, behind `a`, is from 128 up ends with it
pub at_once : (a before : Bytes) (x y : ℕ) (spelling : Bytes) (place v : ℕ) → a ++ x ∷ y ∷ [] ≡ before ++ spelling → length a ≡ length before → 128 ≤ x → Number place spelling v → ⊥
at_once [] [] x y spelling place v e l big n = by n.more n.last n.whole n.small
  where
    by : (more : List ℕ) (last : ℕ) → spelling ≡ more ++ last ∷ [] → Below 128 more → ⊥
    by [] last f small = let bad : length (x ∷ y ∷ []) ≡ length (last ∷ []) = ap length (e ∙ f) in omega (arith, bad)
    by (z ∷ more) last f small = let same : x ≡ z = cc in let k = small.0 in omega arith
at_once [] (b ∷ before) x y spelling place v e l big n = omega arith
at_once (c ∷ a) [] x y spelling place v e l big n = omega arith
at_once (c ∷ a) (b ∷ before) x y spelling place v e l big n = let on : a ++ x ∷ y ∷ [] ≡ before ++ spelling = cc in at_once a before x y spelling place v on (omega arith) big n

pub not_the_trap : (L : ResourceLimits) → InByteOrder L (late 0 q.Constants byte) → ⊥
not_the_trap L ordered = let d = ordered (0x81 ∷ 0 ∷ []) (q.Constants 0) refl in go d.front d.rest d.whole d.already d.ends
  where
    go : (front rest : Bytes) → 0x81 ∷ 0 ∷ [] ≡ front ++ rest → late 0 q.Constants byte 0 front ≡ refused (q.Constants 0) → LastNumber (λ v. L.max_constants_per_proto < v) 0 0 front → ⊥
    go [] rest e s l = let z : ◌≡◌ {A = ℕ} 0 1 = cc in omega arith
    go (a ∷ []) rest e s l = let is : a ≡ 0x81 = cc in let t : late 0 q.Constants byte 0 (0x81 ∷ []) ≡ refused (q.Constants 0) = rw is at s in let z : ◌≡◌ {A = ℕ} 0 1 = cc in omega arith
    go (a ∷ b ∷ []) rest e s l = let is : 0x81 ≡ a = cc in let begins = l.begins in at_once [] l.before a b l.spelling 0 l.value l.whole (omega arith) (omega arith) l.is
    go (a ∷ b ∷ c ∷ front) rest e s l = let bad : length {A = ℕ} (0x81 ∷ 0 ∷ []) ≡ length (a ∷ b ∷ c ∷ (front ++ rest)) = ap length e in omega (arith, bad)
