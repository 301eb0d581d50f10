-- The instructions behind their count, which is held to two limits, and the count of nested functions.
-- Assumes nothing.
use Rattle.std.specs.Prelude.{Result, Ok, Err}
use mathlib.Core.Path.{◌≡◌, refl, sym, ◌∙◌, ap}
use mathlib.Core.List.{List}
use Prim.Native.Nat.{ℕ, ◌+◌}
use native.Mathlib.Omega.{arith}
use lib.Dec.{leb}
use lib.ListN.{drop}
use Rattle.format.specs.declared.refusal.Refusal.{Refusal}
use Rattle.format.specs.declared.refusal.Refusal.TheVariants.{Instructions, TotalInstructions, Prototypes}
use Rattle.format.specs.declared.spelling.Spelling.{Spelling}
use Rattle.format.specs.Form.{Bytes}
use Rattle.format.specs.GrammarChunk.{Listed}
use Rattle.format.specs.Read.{Read, ok, refused, Reader, next, ◌>>=◌, ◌>>◌, give, here, at_most, many}
use Rattle.format.specs.ReadFields.{field, number}
use Rattle.format.proofs.ExactFields.{exact_field}
use Rattle.format_spelling.specs.Inner.Tally.{Adds}
use Rattle.format_spelling.proofs.Tallies.{adds-of, adds-value}
use Rattle.slice.specs.declared.cursor.Cursor.{Cursor}
use Rattle.slice.specs.Shown.{cursor_at}
use Rattle.read_field.specs.Shown.{shown}
use Rattle.read_field.proofs.Shows.{Was, shown_as_err, shown_as_ok}
use Rattle.read_entry.specs.Readers.{code, Count, protos_count}
use Rattle.read_entry.specs.Inner.Counts.{count_up_to, code_count}
use Rattle.read_list.specs.declared.ListAt.{ListAt}
use Rattle.read_list.specs.Inner.Shown.{count_result, count_at}
use Rattle.read_list.proofs.Listing.{exact_held, held-is, exact_count_up_to, many_sized, behind_count, tested_then, CountThen}

-- ## Instructions
module _ (per-proto before total : ℕ) (s : Bytes) (at : ℕ) where
  abbrev words : ℕ → Reader (Listed ℕ)
  words = behind_count (λ n. many n (field 4))

  -- with those of the functions before
  abbrev sum : ℕ → ℕ
  sum n = before + n

  code_is : code per-proto before total at (drop at s) ≡ next (code_count per-proto before total at (drop at s)) words
  code_is =
      tested_then (λ n. leb n per-proto) (Instructions at) (λ n. at_most (before + n) total (TotalInstructions at) >> words n) (number at (drop at s))
      ∙ tested_then (λ n. leb (before + n) total) (TotalInstructions at) words (count_up_to per-proto (Instructions at) at (drop at s))

  pub code_list : CountThen (exact_held (exact_count_up_to per-proto (Instructions at)) sum total (TotalInstructions at)) (λ n. many n (field 4)) s at (code per-proto before total at (drop at s))
  code_list = record {
    own = λ e. held-is number (λ n. n) per-proto (Instructions at) at (drop at s) (held-is (count_up_to per-proto (Instructions at)) sum total (TotalInstructions at) at (drop at s) e);
    sized = many_sized (exact_field 4);
    whole = code_is;
  }

-- ## Nested functions
abbrev count_of : Result (ℕ × Cursor) Refusal → Result (ListAt × Cursor) Refusal
count_of (Ok (v, c)) = Ok ((record { count = v; place = c.at }), c)
count_of (Err q) = Err q

abbrev pub placed : ℕ → Reader Count
placed n = here >>= λ place. give (record { count = n; place = place })

count-shown : (o : Read ℕ) → count_of (shown o) ≡ count_result (next o placed)
count-shown (ok n to rest) = refl
count-shown (refused q) = refl

module _ (limit : ℕ) (s : Bytes) (at : ℕ) where
  protos_are : protos_count limit at (drop at s) ≡ next (count_up_to limit (Prototypes at) at (drop at s)) placed
  protos_are = tested_then (λ n. leb n limit) (Prototypes at) placed (number at (drop at s))

  pub protos-shown : {z y : Result (ℕ × Cursor) Refusal} {n : Spelling} {t t' : List ℕ} → (z ≡ shown (count_up_to limit (Prototypes at) at (drop at s))) × Adds (count_up_to limit (Prototypes at) at (drop at s)) n t t' → z ≡ y
      → (count_of y ≡ count_result (protos_count limit at (drop at s))) × Adds (protos_count limit at (drop at s)) n t t'
  protos-shown e told = (
    ap count_of (sym told ∙ e.0) ∙ count-shown (count_up_to limit (Prototypes at) at (drop at s)) ∙ sym (ap count_result protos_are),
    adds-of (sym protos_are) (adds-value (count_up_to limit (Prototypes at) at (drop at s)) placed e.1),
  )

-- ## From what was shown back to what was read
pub count_err : (o : Read Count) (q : Refusal) → Err q ≡ count_result o → o ≡ refused q
count_err = shown_as_err count_at

same_count : (n : Count) (count place : ℕ) → count ≡ n.count → place ≡ n.place → n ≡ record { count = count; place = place }
same_count n count place p q = rw (p, q)

pub count-ok : (o : Read Count) (count place : ℕ) (c : Cursor) → Ok ((record { count = count; place = place }), c) ≡ count_result o → Was o (record { count = count; place = place }) c.at
count-ok o count place c e =
    let w = shown_as_ok count_at o (record { count = count; place = place }) c e in
    record { rest = w.was.rest; is = w.was.is ∙ ap (λ n. ok n c.at w.was.rest) (same_count w.value count place (ap (λ l. l.count) w.shows) (ap (λ l. l.place) w.shows)) }
