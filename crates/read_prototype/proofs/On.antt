-- From what a call showed to what its reader gave, with the rest of the slice from the next cursor on.
-- Assumes nothing.
use Rattle.std.specs.Prelude.{Ok}
use mathlib.Core.Path.{◌≡◌, ap}
use mathlib.Core.List.{List}
use Prim.Native.Nat.{ℕ}
use lib.ListN.{drop}
use Rattle.format.specs.Form.{Bytes, Form}
use Rattle.format.specs.declared.refusal.Refusal.{Refusal}
use Rattle.format.specs.Read.{Read, ok, refused, Reader, next}
use Rattle.format.proofs.Exact.{Exact}
use Rattle.format.specs.declared.spelling.Spelling.{Spelling}
use Rattle.format_spelling.specs.Spelling.{◌⊕◌}
use Rattle.format_spelling.specs.ReadSpelling.{Count, behind}
use Rattle.format_spelling.specs.Inner.Tally.{Adds}
use Rattle.format_spelling.proofs.Tallies.{adds-not, adds_then}
use Rattle.slice.specs.declared.cursor.Cursor.{Cursor}
use Rattle.read_field.specs.Shown.{shown}
use Rattle.read_field.proofs.Shows.{onward, shown_ok}

module _ (s : Bytes) (at : ℕ) {r : Reader ℕ} {F : Form ℕ} (exact : Exact r F) (v : ℕ) (c : Cursor) where
  pub u64_on : Ok (v, c) ≡ shown (r at (drop at s)) → r at (drop at s) ≡ ok v c.at (drop c.at s)
  u64_on e = onward exact s at (shown_ok (r at (drop at s)) v c e)

-- one step of a reader: by what its first part gave
pub taken : {A B : Type 0} {o : Read A} {x : A} {to : ℕ} {rest : Bytes} (f : A → Reader B) → o ≡ ok x to rest → next o f ≡ f x to rest
taken f e = ap (λ z. next z f) e

pub stopped : {A B : Type 0} {o : Read A} {q : Refusal} (f : A → Reader B) → o ≡ refused q → next o f ≡ refused q
stopped f e = ap (λ z. next z f) e

-- and what its parts add
pub adds_taken : {A B : Type 0} {o : Read A} {n : Spelling} {t t₁ t₂ : List ℕ} {x : A} {to : ℕ} {rest : Bytes} (f : A → Reader B) (d : A → Count) → o ≡ ok x to rest → Adds o n t t₁ → Adds (f x to rest) (d x to rest) t₁ t₂ → Adds (next o f) (n ⊕ behind o d) t t₂
adds_taken {o = o} {n = n} {to = to} {rest = rest} f d = adds_then (λ _ _. o) (λ _ _. n) f d to rest

-- an answer that is shown only where the reader refuses: of what was counted nothing is to be said
pub nothing_said : {A B : Type 0} {shown answer : B} {o : Read A} {n : Spelling} {t t' : List ℕ} {q : Refusal} → (shown ≡ answer → o ≡ refused q) → shown ≡ answer → (shown ≡ answer) × Adds o n t t'
nothing_said err e = (e, adds-not (err e))
