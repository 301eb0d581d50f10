-- The answers of `read_lines`, `read_sizes` and `read_front`, in the code's terms: by what the calls showed.
--     ..-room          there is room behind a part that was read
--     ..-add           what the parts add, the whole adds
-- Assumes nothing.
use Rattle.std.specs.Prelude.{Option, Ok, Err}
use Rattle.read_field.specs.declared.string.StringAt.{StringAt}
use mathlib.Core.Path.{◌≡◌, sym, ◌∙◌, ap}
use mathlib.Core.List.{List}
use Prim.Native.Nat.{ℕ}
use native.Mathlib.Omega.{arith}
use lib.ListN.{drop}
use Rattle.format.specs.declared.refusal.Refusal.{Refusal}
use Rattle.format.specs.Form.{Bytes, Form, Then, Is}
use Rattle.format.specs.GrammarFields.{Field, Number, String}
use Rattle.format.specs.Read.{Read, ok, refused}
use Rattle.format.specs.ReadFields.{number, string}
use Rattle.format.proofs.Exact.{Exact, exact_then, exact_give}
use Rattle.format.proofs.ExactFields.{exact_field, exact_number, exact_string}
use Rattle.format_spelling.specs.ReadSpelling as count
use Rattle.format_spelling.specs.Inner.Tally.{Room, Adds}
use Rattle.format_spelling.proofs.Tallies.{room-on, adds-value}
use Rattle.slice.specs.declared.cursor.Cursor.{Cursor}
use Rattle.slice.specs.Shown.{cursor_at}
use Rattle.read_field.specs.Shown.{shown, string_result}
use Rattle.read_field.proofs.Shows.{Was, onward, shown_err, string_err, string-ok, shown_as_err, shown_as_ok, shown_ok}
use Rattle.read_prototype.specs.declared.front.Lines.{Lines}
use Rattle.read_prototype.specs.declared.front.Sizes.{Sizes}
use Rattle.read_prototype.specs.Front.{Front, lines, sizes, front}
use Rattle.read_prototype.specs.PartsSpelt as spelt
use Rattle.read_prototype.specs.PartsShown.{front_of}
use Rattle.read_prototype.specs.Inner.Results.{lines_result, sizes_result, front_result}
use Rattle.read_prototype.proofs.CoversParts.{covers_one, covers_string}
use Rattle.read_prototype.proofs.On.{u64_on, taken, stopped, adds_taken}

-- ## Two numbers
module _ (s : Bytes) (at : ℕ) where
  pub first_refused : (q : Refusal) → Err q ≡ shown (number at (drop at s)) → Err q ≡ lines_result (lines at (drop at s))
  first_refused q e = rw (shown_err (number at (drop at s)) q e)

  module _ (v : ℕ) (c : Cursor) (e : Ok (v, c) ≡ shown (number at (drop at s))) where
    pub last-refused : (q : Refusal) → Err q ≡ shown (number c.at (drop c.at s)) → Err q ≡ lines_result (lines at (drop at s))
    last-refused q f = rw (u64_on s at exact_number v c e, shown_err (number c.at (drop c.at s)) q f)

    pub two-lines : (u : ℕ) (d : Cursor) → Ok (u, d) ≡ shown (number c.at (drop c.at s))
        → Ok ((record { line_defined = v; last_line_defined = u }), d) ≡ lines_result (lines at (drop at s))
    two-lines u d f = rw (u64_on s at exact_number v c e, u64_on s c.at exact_number u d f)

    pub first_room : {t t₁ : List ℕ} → Room t at → Adds (number at (drop at s)) (count.number at (drop at s)) t t₁ → Room t₁ c.at
    first_room room = room-on covers_one at (drop at s) room (u64_on s at exact_number v c e)

    pub lines-add : {t t₁ t₂ : List ℕ} → Adds (number at (drop at s)) (count.number at (drop at s)) t t₁ → Adds (number c.at (drop c.at s)) (count.number c.at (drop c.at s)) t₁ t₂
        → Adds (lines at (drop at s)) (spelt.lines at (drop at s)) t t₂
    lines-add one two = adds_taken _ _ (u64_on s at exact_number v c e) one (adds-value _ _ two)

-- ## The front
pub lines_err : (o : Read Lines) (q : Refusal) → Err q ≡ lines_result o → o ≡ refused q
lines_err = shown_err

lines_ok : (o : Read Lines) (x : Lines) (c : Cursor) → Ok (x, c) ≡ lines_result o → Was o x c.at
lines_ok = shown_ok

sizes_err : (o : Read Sizes) (q : Refusal) → Err q ≡ sizes_result o → o ≡ refused q
sizes_err = shown_err

sizes-ok : (o : Read Sizes) (x : Sizes) (c : Cursor) → Ok (x, c) ≡ sizes_result o → Was o x c.at
sizes-ok = shown_ok

pub front_err : (o : Read Front) (q : Refusal) → Err q ≡ front_result o → o ≡ refused q
front_err = shown_as_err front_of

-- they read exactly a form
abbrev LinesForm : Form Lines
LinesForm = Then Number λ a. Then Number λ b. Is (record { line_defined = a; last_line_defined = b })

exact_lines : Exact lines LinesForm
exact_lines = exact_then exact_number λ _. exact_then exact_number λ _. exact_give _

abbrev pub SizesForm : Form Sizes
SizesForm = Then (Field 1) λ a. Then (Field 1) λ b. Then (Field 1) λ c. Is (record { numparams = a; is_vararg = b; maxstacksize = c })

pub exact_sizes : Exact sizes SizesForm
exact_sizes = exact_then (exact_field 1) λ _. exact_then (exact_field 1) λ _. exact_then (exact_field 1) λ _. exact_give _

abbrev pub FrontForm : ℕ → Form Front
FrontForm limit = Then (String limit) λ source. Then LinesForm λ between. Then SizesForm λ three. Is (record { source = source; lines = between; sizes = three })

pub exact_front : (limit : ℕ) → Exact (front limit) (FrontForm limit)
exact_front limit = exact_then (exact_string limit) λ _. exact_then exact_lines λ _. exact_then exact_sizes λ _. exact_give _

-- what the readers of lines and sizes leave of the slice
lines-on : (s : Bytes) (at : ℕ) (x : Lines) (c : Cursor) → Ok (x, c) ≡ lines_result (lines at (drop at s)) → lines at (drop at s) ≡ ok x c.at (drop c.at s)
lines-on s at x c e = onward exact_lines s at (lines_ok (lines at (drop at s)) x c e)

sizes-on : (s : Bytes) (at : ℕ) (x : Sizes) (c : Cursor) → Ok (x, c) ≡ sizes_result (sizes at (drop at s)) → sizes at (drop at s) ≡ ok x c.at (drop c.at s)
sizes-on s at x c e = onward exact_sizes s at (sizes-ok (sizes at (drop at s)) x c e)

module _ (s : Bytes) (limit at : ℕ) where
  pub source-refused : (q : Refusal) → Err q ≡ string_result (string limit at (drop at s)) → Err q ≡ front_result (front limit at (drop at s))
  source-refused q e = rw (string_err (string limit at (drop at s)) q e)

  module _ (t : Option StringAt) (c : Cursor) (e : Ok (t, c) ≡ string_result (string limit at (drop at s))) where
    source : string limit at (drop at s) ≡ ok (string-ok (string limit at (drop at s)) t c e).value c.at (drop c.at s)
    source = onward (exact_string limit) s at (string-ok (string limit at (drop at s)) t c e).was

    pub source-room : {k k₁ : List ℕ} → Room k at → Adds (string limit at (drop at s)) (count.string at (drop at s)) k k₁ → Room k₁ c.at
    source-room room = room-on (covers_string limit) at (drop at s) room source

    pub front-add : {k k₁ k₂ : List ℕ} → Adds (string limit at (drop at s)) (count.string at (drop at s)) k k₁ → Adds (lines c.at (drop c.at s)) (spelt.lines c.at (drop c.at s)) k₁ k₂
        → Adds (front limit at (drop at s)) (spelt.front limit at (drop at s)) k k₂
    front-add one two = adds_taken _ _ source one (adds-value _ _ two)

    pub lines-refused : (q : Refusal) → Err q ≡ lines_result (lines c.at (drop c.at s)) → Err q ≡ front_result (front limit at (drop at s))
    lines-refused q f = sym (ap front_result (taken _ source ∙ stopped _ (lines_err (lines c.at (drop c.at s)) q f)))

    module _ (x : Lines) (d : Cursor) (f : Ok (x, d) ≡ lines_result (lines c.at (drop c.at s))) where
      pub sizes-refused : (q : Refusal) → Err q ≡ sizes_result (sizes d.at (drop d.at s)) → Err q ≡ front_result (front limit at (drop at s))
      sizes-refused q g = sym (ap front_result (taken _ source ∙ taken _ (lines-on s c.at x d f) ∙ stopped _ (sizes_err (sizes d.at (drop d.at s)) q g)))

      pub whole-front : (y : Sizes) (n : Cursor) → Ok (y, n) ≡ sizes_result (sizes d.at (drop d.at s))
          → Ok ((record { source = t; lines = x; sizes = y }), n) ≡ front_result (front limit at (drop at s))
      whole-front y n g =
          ap (λ z. Ok ((record { source = z; lines = x; sizes = y }), n)) (string-ok (string limit at (drop at s)) t c e).shows
          ∙ sym (ap front_result (taken _ source ∙ taken _ (lines-on s c.at x d f) ∙ taken _ (sizes-on s d.at y n g)))
