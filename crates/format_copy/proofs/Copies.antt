-- Copying a form of several parts: each part is copied, and its new bytes join. One law for each way to make a form.
--     Measure              what is counted of how the new bytes are spelt
--     Copied m F' p to S   bytes that F' spells at a place, with their value, so that S holds of the two, and m counts nothing
--     Copies m F F' p S    what F spells, F' spells anywhere by other bytes, so that S holds of the old value, the new value and the new bytes
-- Assumes nothing.
use mathlib.Core.Path.{◌≡◌, refl, sym, ◌∙◌, ap, ap₂}
use mathlib.Core.Bool.{cond}
use mathlib.Core.List.{[], ◌∷◌, ◌++◌, append-nil, map, flatten}
use Prim.Native.Nat.{ℕ, zero, suc, ◌+◌, ◌-◌, ◌^◌, ◌<◌}
use native.Mathlib.Omega.{arith}
use borrow.Author.Tests.{le-ltb}
use lib.ListN.{length}
use Rattle.format.specs.Form.{Bytes, Below, Form, Then, Is, Here, Given, Nothing, Run, Many}
use Rattle.format.specs.GrammarFields.{Field, Number}
use Rattle.format.specs.Shortest.{shortest}
use Rattle.format.specs.declared.spelling.Spelling.{Spelling}
use Rattle.format_spelling.specs.Spelling.{same, ◌⊕◌, Tally}
use Rattle.format_spelling.specs.Spelling as tally
use Rattle.format.specs.Copy.{field_bytes}
use Rattle.format.proofs.Below.{below_join, parts}
use Rattle.format.proofs.Build.{put, skip}
use Rattle.format_copy.proofs.BuiltSpelling.{skip_tally}
use Rattle.format.proofs.FieldBytes.{field_below, field_spells}
use Rattle.format.proofs.ShortestLaws.{shortest_spells, shortest-below}

-- nothing is counted of `same`, and of two of which nothing is
pub record Measure : Type 0 where
  pub of : Spelling → ℕ
  pub nothing : of same ≡ 0
  pub adds : (a b : Spelling) → of a ≡ 0 → of b ≡ 0 → of (a ⊕ b) ≡ 0

pub uncounted_same : (m : Measure) {a : Spelling} → a ≡ same → m.of a ≡ 0
uncounted_same m e = ap m.of e ∙ m.nothing

pub record Copied {A : Type 0} (m : Measure) (F' : Form A) (p : Tally F') (to : ℕ) (S : A → Bytes → Type 0) : Type 0 where
  pub value : A
  pub bytes : Bytes
  pub below : Below 256 bytes
  pub spelt : F' to bytes value
  pub tidy : m.of (p.of to bytes value spelt) ≡ 0
  pub holds : S value bytes

pub record Copies {A : Type 0} (m : Measure) (F F' : Form A) (p : Tally F') (S : A → A → Bytes → Type 0) : Type 0 where
  pub again : (at to : ℕ) (b : Bytes) (x : A) → Below 256 b → F at b x → Copied m F' p to (S x)

module _ {A B : Type 0} {m : Measure} {F F' : Form A} {G G' : A → Form B} {p : Tally F'} {q : (x : A) → Tally (G' x)} {S : B → B → Bytes → Type 0} where
  pub then_copies : {R : A → A → Bytes → Type 0} → Copies m F F' p R → ((x x' : A) (b : Bytes) → R x x' b → Copies m (G x) (G' x') (q x') (λ y y' c. S y y' (b ++ c)))
      → Copies m (Then F G) (Then F' G') (tally.both p q) S
  unfolding tally.both put
  then_copies one two = record {
    again = λ at to b y h d.
        let k = parts d h in
        let a = one.again at to d.front d.value k.0 d.one in
        let z = (two d.value a.value a.bytes a.holds).again (at + length d.front) (to + length a.bytes) d.back y k.1 d.two in
        record {
          value = z.value;
          bytes = a.bytes ++ z.bytes;
          below = below_join 256 a.bytes z.bytes a.below z.below;
          spelt = put a.bytes z.bytes a.value a.spelt z.spelt;
          tidy = m.adds (p.of to a.bytes a.value a.spelt) ((q a.value).of (to + length a.bytes) z.bytes z.value z.spelt) a.tidy z.tidy;
          holds = z.holds;
        };
  }

module _ {A B : Type 0} {m : Measure} {F F' : Form A} {G G' : A → Form B} (p : Tally F') {q : (x : A) → Tally (G' x)} {S : B → B → Bytes → Type 0} where
  -- a part whose new value is the old one, and whose new bytes are known
  pub same_copies : (enc : A → Bytes) → ((at to : ℕ) (b : Bytes) (x : A) → Below 256 b → F at b x → Below 256 (enc x) × ((d : F' to (enc x) x) × (p.of to (enc x) x d ≡ same)))
      → ((x : A) → Copies m (G x) (G' x) (q x) (λ y y' c. S y y' (enc x ++ c))) → Copies m (Then F G) (Then F' G') (tally.both p q) S
  unfolding tally.both put
  same_copies enc one two = record {
    again = λ at to b y h d.
        let k = parts d h in
        let x = d.value in
        let e = one at to d.front x k.0 d.one in
        let z = (two x).again (at + length d.front) (to + length (enc x)) d.back y k.1 d.two in
        record {
          value = z.value;
          bytes = enc x ++ z.bytes;
          below = below_join 256 (enc x) z.bytes e.0 z.below;
          spelt = put (enc x) z.bytes x e.1.0 z.spelt;
          tidy = m.adds (p.of to (enc x) x e.1.0) ((q x).of (to + length (enc x)) z.bytes z.value z.spelt) (uncounted_same m e.1.1) z.tidy;
          holds = z.holds;
        };
  }

-- a number's shortest spelling is not padded
pub shortest_tidy : (v at : ℕ) (h : v < 2 ^ 64 - 128) → (tally.number).of at (shortest v) v (shortest_spells v at h) ≡ same
unfolding tally.number
shortest_tidy v at h = ap (λ b. record { padded = cond b 1 0; filled = 0; sources = 0; repeated = 0 }) (le-ltb (length (shortest v)) (length (shortest v)) (omega arith))

module _ {B : Type 0} {m : Measure} {S : B → B → Bytes → Type 0} where
  pub is_copies : {y y' : B} → S y y' [] → Copies m (Is y) (Is y') tally.none S
  unfolding tally.none
  is_copies {y'} s = record { again = λ at to b x h d. record { value = y'; bytes = []; below = tt; spelt = (refl, refl); tidy = m.nothing; holds = rw (← d.1) s } }

  -- no number is counted
  pub uncounted : {F F' : Form B} {p : Tally F'} → Copies m F F' p S → Copies m F F' tally.none S
  unfolding tally.none
  uncounted one = record {
    again = λ at to b x h d. let a = one.again at to b x h d in record { value = a.value; bytes = a.bytes; below = a.below; spelt = a.spelt; tidy = m.nothing; holds = a.holds };
  }

  pub none_copies : {F : Form B} {p : Tally F} → Copies m Nothing F p S
  none_copies = record { again = λ at to b x h d. absurd d }

  pub here_copies : {G G' : ℕ → Form B} {q : (x : ℕ) → Tally (G' x)} → ((x x' : ℕ) → Copies m (G x) (G' x') (q x') S) → Copies m (Then Here G) (Then Here G') (tally.both tally.none q) S
  here_copies {q} two = record {
    again = λ at to b y h d.
        let z = (two d.value to).again (at + length d.front) to d.back y (parts d h).1 d.two in
        record { value = z.value; bytes = z.bytes; below = z.below; spelt = skip to (refl, refl) z.spelt; tidy = ap m.of (skip_tally Here q to (refl, refl) z.spelt) ∙ z.tidy; holds = z.holds };
  }

  -- a condition that carries over
  pub given_copies : {P Q : Type 0} {G G' : Form B} {q : Tally G'} → (P → Q) → Copies m G G' q S → Copies m (Then (Given P) (λ _. G)) (Then (Given Q) (λ _. G')) (tally.both tally.none (λ _. q)) S
  given_copies {Q} {q} f two = record {
    again = λ at to b y h d.
        let z = two.again (at + length d.front) to d.back y (parts d h).1 d.two in
        record { value = z.value; bytes = z.bytes; below = z.below; spelt = skip tt (refl, f d.one.1) z.spelt; tidy = ap m.of (skip_tally (Given Q) (λ _. q) tt (refl, f d.one.1) z.spelt) ∙ z.tidy; holds = z.holds };
  }

  pub number_copies : {G G' : ℕ → Form B} {q : (x : ℕ) → Tally (G' x)} → ((v : ℕ) → Copies m (G v) (G' v) (q v) (λ y y' c. S y y' (shortest v ++ c))) → Copies m (Then Number G) (Then Number G') (tally.both tally.number q) S
  number_copies two = same_copies tally.number shortest (λ at to b v h d. (shortest-below v, (shortest_spells v to d.fits, shortest_tidy v to d.fits))) two

  pub field_copies : {n : ℕ} {G G' : ℕ → Form B} {q : (x : ℕ) → Tally (G' x)} → ((v : ℕ) → Copies m (G v) (G' v) (q v) (λ y y' c. S y y' (field_bytes n v ++ c))) → Copies m (Then (Field n) G) (Then (Field n) G') (tally.both tally.none q) S
  unfolding tally.none
  field_copies {n} two = same_copies tally.none (field_bytes n) (λ at to b v h d. (field_below n v, (field_spells n at to b v h d, refl))) two

  pub run_copies : {n : ℕ} {G G' : Bytes → Form B} {q : (x : Bytes) → Tally (G' x)} → ((c : Bytes) → length c ≡ n → Copies m (G c) (G' c) (q c) (λ y y' d. S y y' (c ++ d))) → Copies m (Then (Run n) G) (Then (Run n) G') (tally.both tally.none q) S
  unfolding tally.both tally.none put
  run_copies {n} {q} two = record {
    again = λ at to b y h d.
        let k = parts d h in
        let c = d.value in
        let size : length c ≡ n = ap length (sym d.one.0) ∙ d.one.1 in
        let below : Below 256 c = rw d.one.0 at k.0 in
        let z = (two c size).again (at + length d.front) (to + length c) d.back y k.1 d.two in
        record {
          value = z.value;
          bytes = c ++ z.bytes;
          below = below_join 256 c z.bytes below z.below;
          spelt = put c z.bytes c (refl, size) z.spelt;
          tidy = m.adds same ((q c).of (to + length c) z.bytes z.value z.spelt) m.nothing z.tidy;
          holds = z.holds;
        };
  }

pub weaken : {A : Type 0} {m : Measure} {F G : Form A} {p : Tally G} {R S : A → A → Bytes → Type 0} → ((x x' : A) (b : Bytes) → R x x' b → S x x' b) → Copies m F G p R → Copies m F G p S
weaken f one = record {
  again = λ at to b x h d.
      let a = one.again at to b x h d in
      record { value = a.value; bytes = a.bytes; below = a.below; spelt = a.spelt; tidy = a.tidy; holds = f x a.value a.bytes a.holds };
}

-- ## Lists of what is copied by itself
-- the new bytes are those that the copy writes of the old value, and the new value is alike: equal in what is kept of it
abbrev pub As : {A : Type 0} → (A → Bytes) → (A → A) → A → A → Bytes → Type 0
As enc plainly x x' b = (b ≡ enc x) × (plainly x' ≡ plainly x)

pub many_copies : {A : Type 0} {m : Measure} {F : Form A} {p : Tally F} {enc : A → Bytes} {plainly : A → A} (n : ℕ) → Copies m F F p (As enc plainly)
    → Copies m (Many n F) (Many n F) (tally.each n p) (λ xs xs' b. (b ≡ flatten (map enc xs)) × (map plainly xs' ≡ map plainly xs) × (length xs ≡ n))
unfolding flatten tally.each
many_copies zero one = is_copies (refl, refl, refl)
many_copies (suc n) one = then_copies one λ x x' b r. then_copies (many_copies n one) λ xs xs' c q. is_copies (ap₂ ◌++◌ r.0 (append-nil c ∙ q.0), ap₂ ◌∷◌ r.1 q.1, ap suc q.2)
