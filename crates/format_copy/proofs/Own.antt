-- Bytes of which no place is spelt otherwise are what a copy, archive or full, writes of their value: one law for each way to make a form.
--     Sort, places     by the copy: which sources count, beside padded numbers and strings that are filled
--     Own m F p S      bytes of F of which the tally p counts nothing: S holds of their value and of them
-- Assumes nothing.
use mathlib.Core.Path.{◌≡◌, refl, sym, ◌∙◌, ap, ap₂}
use mathlib.Core.Bool.{Bool, true, false, cond}
use mathlib.Core.List.{[], ◌++◌, append-nil, map, flatten}
use Prim.Native.Nat.{ℕ, zero, suc, ◌+◌, ◌<◌}
use native.Mathlib.Omega.{arith}
use lib.Dec.{T, ltb, lt→ltb}
use lib.ListN.{length}
use Rattle.format.specs.Form.{Bytes, Below, Form, Then, Is, Here, Given, Nothing, When, Run, Many}
use Rattle.format.specs.GrammarFields.{little, Field, Number}
use Rattle.format.specs.Shortest.{shortest}
use Rattle.format.specs.declared.spelling.Spelling.{Spelling}
use Rattle.format_spelling.specs.Spelling.{same, ◌⊕◌, Tally}
use Rattle.format_spelling.specs.Spelling as tally
use Rattle.format.specs.Copy.{field_bytes}
use Rattle.format.proofs.FieldBytes.{field_back}
use Rattle.format.proofs.Below.{parts}
use Rattle.format.proofs.ShortestLaws.{shortest_least}
use Rattle.format_spelling.proofs.PaddedFirst.{shortest_only}

-- which sources are counted beside padded numbers and strings that are filled: those that the copy in question spells otherwise
pub record Sort : Type 0 where
  pub of : Spelling → ℕ
  pub nothing : of same ≡ 0
  pub join : (a b : Spelling) → of (a ⊕ b) ≡ of a + of b

-- in how many places
abbrev pub places : Sort → Spelling → ℕ
places m a = a.padded + a.filled + m.of a

pub record Own {A : Type 0} (m : Sort) (F : Form A) (p : Tally F) (S : A → Bytes → Type 0) : Type 0 where
  pub own : (at : ℕ) (b : Bytes) (x : A) → Below 256 b → (d : F at b x) → places m (p.of at b x d) ≡ 0 → S x b

module _ {A B : Type 0} {m : Sort} {F : Form A} {G : A → Form B} {p : Tally F} {q : (x : A) → Tally (G x)} {S : B → Bytes → Type 0} where
  pub then_own : {R : A → Bytes → Type 0} → Own m F p R → ((x : A) (b : Bytes) → R x b → Own m (G x) (q x) (λ y c. S y (b ++ c))) → Own m (Then F G) (tally.both p q) S
  unfolding tally.both
  then_own one two = record {
    own = λ at b y h d none.
        let k = parts d h in
        let sum = m.join (p.of at d.front d.value d.one) ((q d.value).of (at + length d.front) d.back y d.two) in
        let r = one.own at d.front d.value k.0 d.one (omega (arith, none, sum)) in
        rw d.whole ((two d.value d.front r).own (at + length d.front) d.back y k.1 d.two (omega (arith, none, sum)));
  }

-- of a part of which nothing is counted
pub uncounted : {A : Type 0} {m : Sort} {F : Form A} {p : Tally F} {S : A → Bytes → Type 0} → ((at : ℕ) (b : Bytes) (x : A) (d : F at b x) → p.of at b x d ≡ same) → Own m F p S → Own m F tally.none S
uncounted {m = m} none one = record { own = λ at b x h d _. one.own at b x h d (ap (places m) (none at b x d) ∙ omega (arith, m.nothing)) }

-- ## Numbers and fields
not_longer : (b : Bool) → ◌≡◌ {A = ℕ} (cond b 1 0) 0 → T b → ⊥
not_longer true e t = omega (arith, e)
not_longer false e t = t

pub number-one : {m : Sort} → Own m Number tally.number (λ v b. b ≡ shortest v)
unfolding tally.number
number-one = record {
  own = λ at b v h d none.
      let least = shortest_least at v b d in
      let short : length (shortest v) < length b → ⊥ = λ lt. not_longer (ltb (length (shortest v)) (length b)) (omega (arith, none)) (lt→ltb _ _ lt) in
      shortest_only at v b h d (omega (arith, least, short));
}

pub field-one : {m : Sort} (n : ℕ) → Own m (Field n) tally.none (λ v b. b ≡ field_bytes n v)
field-one n = record {
  own = λ at b v h d none.
      let front = (parts d h).0 in
      let value : little d.front ≡ v = ap little d.one.0 ∙ d.two.1 in
      d.whole ∙ ap (λ c. d.front ++ c) d.two.0 ∙ append-nil d.front ∙ sym (ap₂ field_bytes (sym d.one.1) (sym value) ∙ field_back d.front front);
}

run-one : {m : Sort} (n : ℕ) → Own m (Run n) tally.none (λ c b. (b ≡ c) × (length c ≡ n))
run-one n = record { own = λ at b c h d none. (d.0, ap length (sym d.0) ∙ d.1) }

-- ## What a form is made of
module _ {B : Type 0} {m : Sort} {S : B → Bytes → Type 0} where
  pub is_own : {y : B} {p : Tally (Is y)} → S y [] → Own m (Is y) p S
  is_own s = record { own = λ at b x h d none. rw (d.0, ← d.1) s }

  pub nothing_own : {p : Tally {A = B} Nothing} → Own m Nothing p S
  nothing_own = record { own = λ at b x h d none. absurd d }

  pub when_own : {F G : Form B} {p : Tally F} {q : Tally G} (b : Bool) → (T b → Own m F p S) → Own m G q S → Own m (When b F G) (tally.either b p q) S
  unfolding tally.either
  when_own true one two = one tt
  when_own false one two = two

  pub here_own : {G : ℕ → Form B} {q : (x : ℕ) → Tally (G x)} → ((x : ℕ) → Own m (G x) (q x) S) → Own m (Then Here G) (tally.both tally.none q) S
  here_own two = then_own {R = λ x b. b ≡ []} (record { own = λ at b x h d none. d.0 }) λ x b e. rw e (two x)

  pub given_own : {P : Type 0} {G : Form B} {q : Tally G} → Own m G q S → Own m (Then (Given P) (λ _. G)) (tally.both tally.none (λ _. q)) S
  given_own two = then_own {R = λ x b. b ≡ []} (record { own = λ at b x h d none. d.0 }) λ x b e. rw e two

  pub number_own : {G : ℕ → Form B} {q : (x : ℕ) → Tally (G x)} → ((v : ℕ) → Own m (G v) (q v) (λ y c. S y (shortest v ++ c))) → Own m (Then Number G) (tally.both tally.number q) S
  number_own two = then_own number-one λ v b e. rw e (two v)

  pub field_own : {n : ℕ} {G : ℕ → Form B} {q : (x : ℕ) → Tally (G x)} → ((v : ℕ) → Own m (G v) (q v) (λ y c. S y (field_bytes n v ++ c))) → Own m (Then (Field n) G) (tally.both tally.none q) S
  field_own {n} two = then_own (field-one n) λ v b e. rw e (two v)

  pub run_own : {n : ℕ} {G : Bytes → Form B} {q : (x : Bytes) → Tally (G x)} → ((c : Bytes) → length c ≡ n → Own m (G c) (q c) (λ y d. S y (c ++ d))) → Own m (Then (Run n) G) (tally.both tally.none q) S
  run_own {n} two = then_own (run-one n) λ c b e. rw e.0 (two c e.1)

pub weaken : {A : Type 0} {m : Sort} {F : Form A} {p : Tally F} {R S : A → Bytes → Type 0} → ((x : A) (b : Bytes) → R x b → S x b) → Own m F p R → Own m F p S
weaken f one = record { own = λ at b x h d none. f x b (one.own at b x h d none) }

pub many_own : {A : Type 0} {m : Sort} {F : Form A} {p : Tally F} {enc : A → Bytes} (n : ℕ) → Own m F p (λ x b. b ≡ enc x) → Own m (Many n F) (tally.each n p) (λ xs b. (b ≡ flatten (map enc xs)) × (length xs ≡ n))
unfolding flatten tally.each
many_own zero one = is_own (refl, refl)
many_own (suc n) one = then_own one λ x b r. then_own (many_own n one) λ xs c q. is_own (ap₂ ◌++◌ r (append-nil c ∙ q.0), ap suc q.1)
