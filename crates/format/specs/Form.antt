-- What a grammar is made of. A form of A relates a place, the bytes that begin there, and the value in A that they spell.
-- There is no reader in this file: two forms one after the other are a concatenation of their bytes. `do` writes it so.
use Rattle.std.specs.Prelude.{◌≡◌, Bool, true, false, List, [], ◌∷◌, ◌++◌, ℕ, zero, suc, ◌+◌, ◌<◌, length}

infixl 10 ◌>>=◌ ◌>>◌
abbrev pub Bytes : Type 0
Bytes = List ℕ

-- P holds of each
abbrev pub All : {A : Type 0} → (A → Type 0) → List A → Type 0
All P [] = Unit {0}
All P (x ∷ xs) = P x × All P xs

-- each is below n: the bytes of a file are numbers below 256
abbrev pub Below : ℕ → List ℕ → Type 0
Below n xs = All (λ x. x < n) xs

abbrev pub Form : Type 0 → Type 1
Form A = ℕ → Bytes → A → Type 0

-- bytes of F, spelling x, and right behind them bytes of G x
pub record Then {A B : Type 0} (F : Form A) (G : A → Form B) (at : ℕ) (bytes : Bytes) (b : B) : Type 0 where
  pub value : A
  pub front : Bytes
  pub back : Bytes
  pub whole : bytes ≡ front ++ back
  pub one : F at front value
  pub two : G value (at + length front) back b

abbrev pub ◌>>=◌ : {A B : Type 0} → Form A → (A → Form B) → Form B
◌>>=◌ F G = Then F G

abbrev pub ◌>>◌ : {A B : Type 0} → Form A → Form B → Form B
◌>>◌ F G = Then F (λ _. G)

-- no bytes, and the value is x
abbrev pub Is : {A : Type 0} → A → Form A
Is x at bytes y = (bytes ≡ []) × (x ≡ y)

-- no bytes, and the value is the place
abbrev pub Here : Form ℕ
Here at bytes y = (bytes ≡ []) × (at ≡ y)

-- no bytes, and P holds
abbrev pub Given : Type 0 → Form (Unit {0})
Given P at bytes u = (bytes ≡ []) × P

-- no bytes at all are of this form
abbrev pub Nothing : {A : Type 0} → Form A
Nothing at bytes y = ⊥

-- F where the test holds, else G
abbrev pub When : {A : Type 0} → Bool → Form A → Form A → Form A
When true F G = F
When false F G = G

-- any n bytes, which are the value
abbrev pub Run : ℕ → Form Bytes
Run n at bytes y = (bytes ≡ y) × (length bytes ≡ n)

-- these bytes
abbrev pub Spelt : Bytes → Form (Unit {0})
Spelt bytes = do
  b ← Run (length bytes)
  Given (b ≡ bytes)

-- n of F, one after the other
abbrev pub Many : {A : Type 0} → ℕ → Form A → Form (List A)
Many zero F = Is []
Many (suc n) F = do
  x ← F
  xs ← Many n F
  Is (x ∷ xs)
