-- What holds of whatever bytes of a form spell: one law for each way to make a form.
-- Assumes nothing.
use mathlib.Core.Path.{◌≡◌, refl, ap}
use mathlib.Core.List.{List, [], ◌∷◌, ◌++◌}
use mathlib.Core.Bool.{Bool, true, false}
use Prim.Native.Nat.{ℕ, zero, suc, ◌<◌, ◌^◌, ◌-◌}
use lib.ListN.{length}
use Rattle.format.specs.Form.{Bytes, All, Form, Then, Is, Given, Nothing, When, Run, Many}
use Rattle.format.specs.GrammarFields.{Number}

pub record Every {A : Type 0} (F : Form A) (P : A → Type 0) : Type 0 where
  pub holds : (at : ℕ) (b : Bytes) (x : A) → F at b x → P x

-- nothing is asked
abbrev pub Any : {A : Type 0} → A → Type 0
Any x = Unit {0}

pub any : {A : Type 0} {F : Form A} → Every F Any
any = record { holds = λ at b x d. tt }

pub every_then : {A B : Type 0} {F : Form A} {G : A → Form B} {Q : A → Type 0} {P : B → Type 0} → Every F Q → ((x : A) → Q x → Every (G x) P) → Every (Then F G) P
every_then one two = record { holds = λ at b y d. (two d.value (one.holds at d.front d.value d.one)).holds _ d.back y d.two }

pub every_is : {A : Type 0} {x : A} {P : A → Type 0} → P x → Every (Is x) P
every_is {P} p = record { holds = λ at b y d. rw (← d.1) p }

pub every_given : {Q : Type 0} → Every (Given Q) (λ _. Q)
every_given = record { holds = λ at b x d. d.1 }

pub every_nothing : {A : Type 0} {P : A → Type 0} → Every {A = A} Nothing P
every_nothing = record { holds = λ at b x d. absurd d }

pub every_when : {A : Type 0} {F G : Form A} {P : A → Type 0} (t : Bool) → Every F P → Every G P → Every (When t F G) P
every_when true one two = one
every_when false one two = two

pub every_number : Every Number (λ v. v < 2 ^ 64 - 128)
every_number = record { holds = λ at b v d. d.fits }

pub every_run : (n : ℕ) → Every (Run n) (λ b. length b ≡ n)
every_run n = record { holds = λ at b y d. rw d.0 at d.1 }

pub all_any : {A : Type 0} (xs : List A) → All Any xs
all_any [] = tt
all_any (x ∷ xs) = (tt, all_any xs)

pub all_append : {A : Type 0} (P : A → Type 0) (xs ys : List A) → All P xs → All P ys → All P (xs ++ ys)
all_append P [] ys p q = q
all_append P (x ∷ xs) ys p q = (p.0, all_append P xs ys p.1 q)

pub all_split : {A : Type 0} (P : A → Type 0) (xs ys : List A) → All P (xs ++ ys) → All P xs × All P ys
all_split P [] ys p = (tt, p)
all_split P (x ∷ xs) ys p = let rest = all_split P xs ys p.1 in ((p.0, rest.0), rest.1)

pub every_many : {A : Type 0} {F : Form A} {P : A → Type 0} (n : ℕ) → Every F P → Every (Many n F) (λ xs. (length xs ≡ n) × All P xs)
every_many zero one = every_is (refl, tt)
every_many (suc n) one = every_then one λ x p. every_then (every_many n one) λ xs q. every_is (ap suc q.0, (p, q.1))
