-- What is put of the front of a function, where the code shows it.
--     lines_read, ..            how far the reading came
--     PutsLines, PutsSizes     its lines, its three bytes
--     FrontPut                 its source, its lines and its three bytes, one behind the other, at the start
--     PutsFront                the same, where o shows them
use Rattle.std.specs.Prelude.{◌≡◌, Bool, cond, [], ◌∷◌, ℕ, Result, Ok, Err}
use Rattle.format.specs.declared.refusal.Refusal.{Refusal}
use Rattle.read_prototype.specs.declared.front.Front.{Front}
use Rattle.format.specs.Form.{Bytes}
use Rattle.format.specs.Shortest.{shortest}
use Rattle.slice.specs.declared.cursor.Cursor.{Cursor}
use Rattle.read_prototype.specs.declared.front.Lines.{Lines}
use Rattle.read_prototype.specs.declared.front.Sizes.{Sizes}
use Rattle.read_prototype.specs.declared.front.Front as declared-front
use Rattle.copy_put.specs.Inner.Put.{Put}
use Rattle.copy_put.specs.Inner.Text.{There, spelt}
use Rattle.copy_parts.specs.Inner.Parts.{lines_bytes}

abbrev pub lines_read : Result (Lines × Cursor) Refusal → Result Cursor Refusal
lines_read (Ok (x, c)) = Ok c
lines_read (Err q) = Err q

abbrev pub sizes_read : Result (Sizes × Cursor) Refusal → Result Cursor Refusal
sizes_read (Ok (x, c)) = Ok c
sizes_read (Err q) = Err q

abbrev pub front_read : Result (Front × Cursor) Refusal → Result Cursor Refusal
front_read (Ok (x, c)) = Ok c
front_read (Err q) = Err q

pub record PutsLines (o : Result (Lines × Cursor) Refusal) (at : ℕ) (l : Bytes) (behind : ℕ) (l' : Bytes) : Type 0 where
  pub put : (x : Lines) (c : Cursor) → o ≡ Ok (x, c) → Put (lines_bytes x) at l behind l'

pub record PutsSizes (o : Result (Sizes × Cursor) Refusal) (at : ℕ) (l : Bytes) (behind : ℕ) (l' : Bytes) : Type 0 where
  pub put : (x : Sizes) (c : Cursor) → o ≡ Ok (x, c) → Put (x.numparams ∷ x.is_vararg ∷ x.maxstacksize ∷ []) at l behind l'

pub record FrontPut (s : Bytes) (named : Bool) (f : declared-front.Front) (l : Bytes) (behind : ℕ) (l' : Bytes) : Type 0 where
  pub w₁ : ℕ
  pub l₁ : Bytes
  pub w₂ : ℕ
  pub l₂ : Bytes
  pub source : There s f.source → Put (cond named (spelt s f.source) (shortest 0)) 0 l w₁ l₁
  pub lines : Put (lines_bytes f.lines) w₁ l₁ w₂ l₂
  pub sizes : Put (f.sizes.numparams ∷ f.sizes.is_vararg ∷ f.sizes.maxstacksize ∷ []) w₂ l₂ behind l'

pub record PutsFront (s : Bytes) (named : Bool) (o : Result (Front × Cursor) Refusal) (l : Bytes) (behind : ℕ) (l' : Bytes) : Type 0 where
  pub put : (f : declared-front.Front) (c : Cursor) → o ≡ Ok (f, c) → FrontPut s named f l behind l'
