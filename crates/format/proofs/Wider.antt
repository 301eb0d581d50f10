-- What belongs to a form under some limits belongs to it under larger ones, with the same value: one law for each way to make a form.
-- Lists and entries are here; functions and chunks are in `proofs/WiderChunk.antt`. At the end: the same bytes in other groups.
-- Assumes nothing.
use mathlib.Core.Path.{◌≡◌, refl, ◌∙◌, ap}
use mathlib.Core.Bool.{Bool, true, false}
use mathlib.Core.List.{[], ◌∷◌, ◌++◌, append_assoc}
use Prim.Native.Nat.{ℕ, zero, suc, ◌≤◌}
use native.Mathlib.Omega.{arith}
use native.Mathlib.Nat.{add-zero, add_assoc}
use lib.Dec.{eqb}
use lib.ListN.{length-append}
use Rattle.format.specs.Form.{Bytes, Form, Then, Is, Here, Given, Nothing, When, Many}
use Rattle.format.specs.GrammarFields.{Content, String}
use Rattle.format.specs.GrammarChunk.{Counted, CountedUpTo, Always, Tagged, Constant, Local}
use Rattle.format.proofs.Build.{put, skip}

pub record Wider {A : Type 0} (F G : Form A) : Type 0 where
  pub widens : {at : ℕ} {bytes : Bytes} {x : A} → F at bytes x → G at bytes x

pub same_wider : {A : Type 0} {F : Form A} → Wider F F
same_wider = record { widens = λ d. d }

pub none_wider : {A : Type 0} {F : Form A} → Wider Nothing F
none_wider = record { widens = λ d. absurd d }

given_wider : {P Q : Type 0} → (P → Q) → Wider (Given P) (Given Q)
given_wider f = record { widens = λ d. (d.0, f d.1) }

pub at_most_wider : (k : ℕ) {m n : ℕ} → m ≤ n → Wider (Given (k ≤ m)) (Given (k ≤ n))
at_most_wider k le = given_wider λ h. omega arith

module _ {A B : Type 0} {F F' : Form A} {G G' : A → Form B} where
  pub then_wider : Wider F F' → ((x : A) → Wider (G x) (G' x)) → Wider (Then F G) (Then F' G')
  then_wider one two = record {
    widens = λ d. record { value = d.value; front = d.front; back = d.back; whole = d.whole; one = one.widens d.one; two = (two d.value).widens d.two };
  }

-- a part that no limit tests
pub behind : {A B : Type 0} {F : Form A} {G G' : A → Form B} → ((x : A) → Wider (G x) (G' x)) → Wider (Then F G) (Then F G')
behind two = then_wider same_wider two

-- nothing changes behind the first part
pub so : {A B : Type 0} {F F' : Form A} {G : A → Form B} → Wider F F' → Wider (Then F G) (Then F' G)
so one = then_wider one λ _. same_wider

pub many_wider : {A : Type 0} {F G : Form A} (n : ℕ) → Wider F G → Wider (Many n F) (Many n G)
many_wider zero one = same_wider
many_wider (suc n) one = then_wider one λ x. so (many_wider n one)

pub when_wider : {A : Type 0} {F F' G G' : Form A} (b : Bool) → Wider F F' → Wider G G' → Wider (When b F G) (When b F' G')
when_wider true one two = one
when_wider false one two = two

pub counted_wider : {A : Type 0} {F G : Form A} → Wider F G → Wider (Counted F) (Counted G)
counted_wider one = behind λ n. behind λ place. so (many_wider n one)

pub up_to_wider : {A : Type 0} {F G : Form A} {m n : ℕ} → m ≤ n → Wider F G → Wider (CountedUpTo m F) (CountedUpTo n G)
up_to_wider le one = behind λ k. then_wider (at_most_wider k le) λ _. behind λ place. so (many_wider k one)

-- ## Entries, under string limits
module _ {m n : ℕ} (le : m ≤ n) where
  content_wider : (size : ℕ) → Wider (Content m size) (Content n size)
  content_wider zero = same_wider
  content_wider (suc k) = so (at_most_wider k le)

  pub string_wider : Wider (String m) (String n)
  string_wider = behind content_wider

  always_wider : (instead : Bytes) → Wider (Always m instead) (Always n instead)
  always_wider instead = so string_wider

  tagged_wider : (tag : ℕ) → Wider (Tagged m tag) (Tagged n tag)
  tagged_wider tag =
      when_wider (eqb tag 0) same_wider
      (when_wider (eqb tag 1) same_wider
      (when_wider (eqb tag 17) same_wider
      (when_wider (eqb tag 3) same_wider
      (when_wider (eqb tag 19) same_wider
      (when_wider (eqb tag 4) (so (always_wider []))
      (when_wider (eqb tag 20) (so (always_wider []))
      same_wider))))))

  pub constant_wider : Wider (Constant m) (Constant n)
  constant_wider = behind tagged_wider

  pub local_wider : Wider (Local m) (Local n)
  local_wider = so (always_wider (63 ∷ []))

-- ## The same bytes in other groups
pub joined : {A : Type 0} {F G H : Form A} → Wider F G → Wider G H → Wider F H
joined one two = record { widens = λ d. two.widens (one.widens d) }

module _ {A B C : Type 0} {F : Form A} {G : A → Form B} {H : B → Form C} where
  -- out of a group, and into one
  pub opened : Wider (Then (Then F G) H) (Then F (λ x. Then (G x) H))
  opened = record {
    widens = λ {at} d.
        let f = d.one in
        record {
          value = f.value;
          front = f.front;
          back = f.back ++ d.back;
          whole = cc (append_assoc f.front f.back d.back);
          one = f.one;
          two = put f.back d.back d.value f.two (rw (f.whole, length-append, ← add_assoc) at d.two);
        };
  }

  pub grouped : Wider (Then F (λ x. Then (G x) H)) (Then (Then F G) H)
  grouped = record {
    widens = λ d.
        let g = d.two in
        record {
          value = g.value;
          front = d.front ++ g.front;
          back = g.back;
          whole = cc (append_assoc d.front g.front g.back);
          one = put d.front g.front d.value d.one g.one;
          two = rw (length-append, ← add_assoc) g.two;
        };
  }

-- a first part that has no bytes: a value, the place
pub known : {A B : Type 0} {x : A} {G : A → Form B} → Wider (Then (Is x) G) (G x)
known = record {
  widens = λ {at} {bytes} d.
      let all : bytes ≡ d.back = d.whole ∙ ap (λ b. b ++ d.back) d.one.0 in
      rw (all, d.one.1) (rw (d.one.0, add-zero) at d.two);
}

pub at_place : {A : Type 0} {F : Form A} {G : ℕ → Form A} → ((place : ℕ) → Wider F (G place)) → Wider F (Then Here G)
at_place two = record { widens = λ {at} d. skip at (refl, refl) ((two at).widens d) }
