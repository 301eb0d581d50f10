-- Entries that are passed over: the end is shown, and what is spelt otherwise is counted. For any reader of an entry, and its count.
--     Passes o n a t t'    the answer a shows the end of o, and where o was read t' has n more than t: what each function of src/pass.rt ensures
--     passes-..            for each way to make a reader
-- Assumes nothing.
use Rattle.std.specs.Prelude.{Result, Ok, Err}
use mathlib.Core.Path.{◌≡◌, sym, ◌∙◌, ap}
use mathlib.Core.List.{List}
use Prim.Native.Nat.{ℕ}
use lib.ListN.{drop}
use Rattle.format.specs.declared.refusal.Refusal.{Refusal}
use Rattle.format.specs.declared.spelling.Spelling.{Spelling}
use Rattle.format.specs.Form.{Bytes, Form}
use Rattle.format.specs.Read.{Read, ok, refused, Reader, next, ◌>>=◌, give}
use Rattle.format.specs.ReadFields.{number}
use Rattle.format.proofs.Exact.{Exact}
use Rattle.format.proofs.ExactFields.{exact_number}
use Rattle.format_spelling.specs.ReadSpelling.{Count, plus}
use Rattle.format_spelling.specs.ReadSpelling as count
use Rattle.format_spelling.specs.Inner.Tally.{Room, Adds}
use Rattle.format_spelling.proofs.SpellingLaws.{tells_number}
use Rattle.format_spelling.proofs.Few.{few_number}
use Rattle.format_spelling.proofs.Covers.{Covers, covers_few}
use Rattle.format_spelling.proofs.Tallies.{room-on, adds-not, adds-value, adds_then}
use Rattle.slice.specs.declared.cursor.Cursor.{Cursor}
use Rattle.slice.specs.Inner.Results.{cursor_result}
use Rattle.read_field.proofs.Shows.{Was, onward, cursor_err, cursor_ok}
use Rattle.read_entry.proofs.Turns.{same_end}

abbrev pub Passes : {A : Type 0} → Read A → Spelling → Result Cursor Refusal → List ℕ → List ℕ → Type 0
Passes o n a t t' = (a ≡ cursor_result o) × Adds o n t t'

pub passes_value : {A B : Type 0} (g : A → ℕ → B) (o : Read A) {n : Spelling} {a : Result Cursor Refusal} {t t' : List ℕ} → Passes o n a t t' → Passes (next o (λ x at s. ok (g x at) at s)) n a t t'
passes_value g o p = (p.0 ∙ sym (same_end g o), adds-value o _ p.1)

-- one reader behind another: the first refuses, or is read
pub passes_stop : {A B : Type 0} (r : Reader A) (f : A → Reader B) (at : ℕ) (s : Bytes) {n : Spelling} {q : Refusal} {t t' : List ℕ} → r at s ≡ refused q → Passes ((r >>= f) at s) n (Err q) t t'
passes_stop r f at s e = let is = ap (λ o. next o f) e in (ap cursor_result (sym is), adds-not is)

module _ {A B : Type 0} {r : Reader A} {F : Form A} (exact : Exact r F) (c : Count) (f : A → Reader B) (d : A → Count) (s : Bytes) (at : ℕ) where
  pub passes_read : {x : A} {to : ℕ} {a : Result Cursor Refusal} {t t₁ t₂ : List ℕ} → Was (r at (drop at s)) x to → Adds (r at (drop at s)) (c at (drop at s)) t t₁ → Passes (f x to (drop to s)) (d x to (drop to s)) a t₁ t₂
      → Passes ((r >>= f) at (drop at s)) (plus r c d at (drop at s)) a t t₂
  passes_read w one two =
      let on = onward exact s at w in
      (two.0 ∙ ap (λ o. cursor_result (next o f)) (sym on), adds_then r c f d at (drop at s) on one two.1)

  -- the same, where of the value nothing is known
  pub passes_on : {k : Cursor} {a : Result Cursor Refusal} {t t₁ t₂ : List ℕ} → Passes (r at (drop at s)) (c at (drop at s)) (Ok k) t t₁ → ((x : A) → Passes (f x k.at (drop k.at s)) (d x k.at (drop k.at s)) a t₁ t₂)
      → Passes ((r >>= f) at (drop at s)) (plus r c d at (drop at s)) a t t₂
  passes_on {k} one two = let w = cursor_ok (r at (drop at s)) k one.0 in passes_read w.was one.1 (two w.value)

-- and there is room behind it
pub passes_room : {A : Type 0} {r : Reader A} {c : Count} → Covers r c → (at : ℕ) (s : Bytes) {k : Cursor} {t t' : List ℕ} → Room t at → Passes (r at s) (c at s) (Ok k) t t' → Room t' k.at
passes_room {r = r} covers at s {k} room p = room-on covers at s room (cursor_ok (r at s) k p.0).was.is p.1

-- ## Two numbers, as in an anchor and behind the name of a local variable
pub covers_one : Covers number count.number
covers_one = covers_few exact_number tells_number few_number

module _ {B : Type 0} (g : ℕ → ℕ → B) (s : Bytes) (at : ℕ) where
  abbrev second : ℕ → Reader B
  second x = number >>= λ y. give (g x y)

  pub two_stop : {n : Spelling} {q : Refusal} {t t' : List ℕ} → Err q ≡ cursor_result (number at (drop at s)) → Passes ((number >>= second) at (drop at s)) n (Err q) t t'
  two_stop e = passes_stop number second at (drop at s) (cursor_err (number at (drop at s)) _ e)

  pub two-on : {k : Cursor} {a : Result Cursor Refusal} {t t₁ t₂ : List ℕ} → Passes (number at (drop at s)) (count.number at (drop at s)) (Ok k) t t₁ → Passes (number k.at (drop k.at s)) (count.number k.at (drop k.at s)) a t₁ t₂
      → Passes ((number >>= second) at (drop at s)) (plus number count.number (λ x. count.number) at (drop at s)) a t t₂
  two-on {k} one two = passes_on exact_number count.number second (λ x. count.number) s at one (λ x. passes_value (λ y _. g x y) (number k.at (drop k.at s)) two)
