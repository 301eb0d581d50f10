-- What belongs to a form belongs to another with the same value, if the value meets a condition: one law for each way to make a form.
--     WiderIf P R F G      bytes of F that spell a value within P are bytes of G and spell it; and R holds
-- A part's test stands before the rest, and the condition is on what the whole spells. So the law of the rest says (R) what was learnt of the parts before it:
-- in `tested one λ x. rest`, `rest` shows that x is within what `one` asks, and `ends` gathers all that was asked.
-- Assumes nothing.
use mathlib.Core.Path.{refl}
use mathlib.Core.Bool.{Bool, true, false}
use Prim.Native.Nat.{ℕ, zero, suc}
use Rattle.format.specs.Form.{Bytes, All, Form, Then, Is, Given, Nothing, When, Many}
use Rattle.format.proofs.Build.{skip}
use Rattle.format.proofs.Every.{Every, Any, any}
use Rattle.format.proofs.Wider.{Wider, opened, known}

pub record WiderIf {A : Type 0} (P : A → Type 0) (R : Type 0) (F G : Form A) : Type 0 where
  pub widens : (at : ℕ) (b : Bytes) (x : A) → P x → F at b x → G at b x × R

-- the first form written in another way
pub seen_as : {A : Type 0} {P : A → Type 0} {R : Type 0} {F F' G : Form A} → Wider F F' → WiderIf P R F' G → WiderIf P R F G
seen_as w rest = record { widens = λ at b x p d. rest.widens at b x p (w.widens d) }

-- no condition is needed
pub unasked : {A : Type 0} {P : A → Type 0} {F G : Form A} → Wider F G → WiderIf P (Unit {0}) F G
unasked w = record { widens = λ at b x p d. (w.widens d, tt) }

pub none_if : {A : Type 0} {P : A → Type 0} {R : Type 0} {G : Form A} → WiderIf P R Nothing G
none_if = record { widens = λ at b x p d. absurd d }

-- less is said of what was learnt
pub learnt : {A : Type 0} {P : A → Type 0} {R S : Type 0} {F G : Form A} → (R → S) → WiderIf P R F G → WiderIf P S F G
learnt f w = record { widens = λ at b x p d. let r = w.widens at b x p d in (r.0, f r.1) }

-- what was learnt cannot be
pub refuted : {A : Type 0} {P : A → Type 0} {R S : Type 0} {F G H : Form A} → (R → ⊥) → WiderIf P R F G → WiderIf P S F H
refuted f w = record { widens = λ at b x p d. absurd (f (w.widens at b x p d).1) }

-- ## What a form is made of
-- the end: here the value, and so the condition, is known
pub ends : {A : Type 0} {P : A → Type 0} {R : Type 0} {x : A} → (P x → R) → WiderIf P R (Is x) (Is x)
ends learn = record { widens = λ at b y p d. (d, learn (rw d.1 p)) }

module _ {A B : Type 0} {P : B → Type 0} {R : Type 0} {F F' : Form A} {G G' : A → Form B} where
  -- a part of which K is known, and Q is learnt from the rest
  pub learns : {K Q : A → Type 0} → Every F K → WiderIf Q (Unit {0}) F F' → ((x : A) → K x → WiderIf P (Q x × R) (G x) (G' x)) → WiderIf P R (Then F G) (Then F' G')
  learns every one two = record {
    widens = λ at b y p d.
        let rest = (two d.value (every.holds at d.front d.value d.one)).widens _ d.back y p d.two in
        let first = one.widens at d.front d.value rest.1.0 d.one in
        (record { value = d.value; front = d.front; back = d.back; whole = d.whole; one = first.0; two = rest.0 }, rest.1.1);
  }

  -- a part that is within Q
  pub tested : {Q : A → Type 0} → WiderIf Q (Unit {0}) F F' → ((x : A) → WiderIf P (Q x × R) (G x) (G' x)) → WiderIf P R (Then F G) (Then F' G')
  tested one two = learns any one λ x _. two x

  -- a part that nothing tests, of which K is known
  pub knows : {K : A → Type 0} → Every F K → Wider F F' → ((x : A) → K x → WiderIf P R (G x) (G' x)) → WiderIf P R (Then F G) (Then F' G')
  knows every one two = learns every (unasked {P = Any} one) λ x k. learnt (λ r. (tt, r)) (two x k)

  pub untested : Wider F F' → ((x : A) → WiderIf P R (G x) (G' x)) → WiderIf P R (Then F G) (Then F' G')
  untested one two = knows any one λ x _. two x

-- the same where it is the first part of a group
module _ {A B C : Type 0} {P : C → Type 0} {R : Type 0} {F F' : Form A} {G : A → Form B} {H : B → Form C} {K : A → Form C} where
  pub tested_in : {Q : A → Type 0} → WiderIf Q (Unit {0}) F F' → ((x : A) → WiderIf P (Q x × R) (Then (G x) H) (K x)) → WiderIf P R (Then (Then F G) H) (Then F' K)
  tested_in one two = seen_as opened (tested one two)

  pub knows_in : {Q : A → Type 0} → Every F Q → Wider F F' → ((x : A) → Q x → WiderIf P R (Then (G x) H) (K x)) → WiderIf P R (Then (Then F G) H) (Then F' K)
  knows_in every one two = seen_as opened (knows every one two)

  pub untested_in : Wider F F' → ((x : A) → WiderIf P R (Then (G x) H) (K x)) → WiderIf P R (Then (Then F G) H) (Then F' K)
  untested_in one two = seen_as opened (untested one two)

-- the end of a group
pub ends_in : {A B : Type 0} {P : B → Type 0} {R : Type 0} {x : A} {H : A → Form B} {K : Form B} → WiderIf P R (H x) K → WiderIf P R (Then (Is x) H) K
ends_in rest = seen_as known rest

module _ {A : Type 0} {P : A → Type 0} {R : Type 0} {F G : Form A} where
  -- a test that the other form adds
  pub limited : {Q : Type 0} → WiderIf P (Q × R) F G → WiderIf P R F (Then (Given Q) (λ _. G))
  limited rest = record {
    widens = λ at b x p d.
        let r = rest.widens at b x p d in
        (skip tt (refl, r.1.0) r.0, r.1.1);
  }

  pub by_test : {F' G' : Form A} (t : Bool) → WiderIf P R F F' → WiderIf P R G G' → WiderIf P R (When t F G) (When t F' G')
  by_test true one two = one
  by_test false one two = two

-- each of many
pub many_if : {A : Type 0} {P : A → Type 0} {F G : Form A} (n : ℕ) → WiderIf P (Unit {0}) F G → WiderIf (All P) (Unit {0}) (Many n F) (Many n G)
many_if zero one = ends λ p. tt
many_if (suc n) one = tested one λ x. tested (many_if n one) λ xs. ends λ p. (p.1, (p.0, tt))
