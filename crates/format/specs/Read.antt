-- What a reader is made of. A reader takes a place and the bytes from there on, and gives a value, the place behind it and the bytes from there on; or it refuses.
-- `do` is the Rust's `?`: the first refusal ends the reading.
use Rattle.std.specs.Prelude.{Bool, true, false, cond, List, [], ◌∷◌, ◌++◌, ℕ, zero, suc, ◌+◌, ◌^◌, leb, ltb, length, take, drop}
use Rattle.format.specs.declared.refusal.Refusal.{Refusal}
use Rattle.format.specs.declared.refusal.Refusal.TheVariants.{Truncated, Overflow}
use Rattle.format.specs.Form.{Bytes}

infixl 10 ◌>>=◌ ◌>>◌
pub data Read (A : Type 0) : Type 0 where
  ok : A → ℕ → Bytes → Read A
  refused : Refusal → Read A

abbrev pub Reader : Type 0 → Type 0
Reader A = ℕ → Bytes → Read A

abbrev pub next : {A B : Type 0} → Read A → (A → Reader B) → Read B
next (ok x at s) f = f x at s
next (refused q) f = refused q

abbrev pub ◌>>=◌ : {A B : Type 0} → Reader A → (A → Reader B) → Reader B
◌>>=◌ r f at s = next (r at s) f

abbrev pub ◌>>◌ : {A B : Type 0} → Reader A → Reader B → Reader B
◌>>◌ r f at s = next (r at s) (λ _. f)

abbrev pub give : {A : Type 0} → A → Reader A
give x at s = ok x at s

abbrev pub here : Reader ℕ
here at s = ok at at s

abbrev pub refuse : {A : Type 0} → Refusal → Reader A
refuse q at s = refused q

abbrev pub test : Bool → Refusal → Reader (Unit {0})
test true q = give tt
test false q = refuse q

-- n ≤ m, or the refusal
abbrev pub at_most : ℕ → ℕ → Refusal → Reader (Unit {0})
at_most n m q = test (leb n m) q

-- the refusal where n bytes are wanted at a place and there are fewer: 2 where place plus n is 2^64 or more, else 1.
-- (`read_exact` tests for 2 first. That is the same: where n bytes are there, place plus n is at most the file's length, and that is below 2^64.)
abbrev pub short : ℕ → ℕ → Refusal
short n at = cond (ltb (at + n) (2 ^ 64)) (Truncated at) Overflow

-- n bytes, if there are as many
abbrev pub piece : Bool → ℕ → Reader Bytes
piece true n at s = ok (take n s) (at + n) (drop n s)
piece false n at s = refused (short n at)

abbrev pub run : ℕ → Reader Bytes
run n at s = piece (leb n (length s)) n at s

abbrev pub many : {A : Type 0} → ℕ → Reader A → Reader (List A)
many zero r = give []
many (suc n) r = do
  x ← r
  xs ← many n r
  give (x ∷ xs)
