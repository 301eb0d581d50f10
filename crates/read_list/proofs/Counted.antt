-- Lists behind their counts: what is counted on the way is that of the list's own count and that of each item.
--     list_refused     the count is refused: of it nothing is said
--     list_run         items of which nothing is counted
--     list_room        behind the count there is room for the items
--     list_all         items that are counted
--     list_none        no items
-- Assumes nothing.
use Rattle.std.specs.Prelude.{Result, Ok, Err}
use mathlib.Core.Path.{◌≡◌, refl, sym, ◌∙◌, ap}
use mathlib.Core.List.{List}
use Prim.Native.Nat.{ℕ}
use lib.ListN.{drop}
use Rattle.format.specs.declared.refusal.Refusal.{Refusal}
use Rattle.format.specs.declared.spelling.Spelling.{Spelling}
use Rattle.format.specs.Form.{Bytes, Form}
use Rattle.format.specs.GrammarChunk.{Listed}
use Rattle.format.specs.Read.{Read, ok, Reader, next, give, many}
use Rattle.format.specs.ReadFields.{number}
use Rattle.format.proofs.Exact.{Exact}
use Rattle.format.proofs.ExactFields.{exact_number}
use Rattle.format_spelling.specs.ReadSpelling.{Count}
use Rattle.format_spelling.specs.ReadSpelling as count
use Rattle.format_spelling.specs.Inner.Tally.{Room, Adds}
use Rattle.format_spelling.proofs.SpellingLaws.{tells_number}
use Rattle.format_spelling.proofs.Few.{few_number}
use Rattle.format_spelling.proofs.Covers.{covers_few}
use Rattle.format_spelling.proofs.Tallies.{room-on, adds-not, adds_none, adds-of, adds-value, adds_then}
use Rattle.slice.specs.declared.cursor.Cursor.{Cursor}
use Rattle.slice.specs.Inner.Results.{cursor_result}
use Rattle.read_field.specs.Shown.{shown}
use Rattle.read_field.proofs.Shows.{onward, shown_err, shown_ok}
use Rattle.read_list.specs.declared.ListAt.{ListAt}
use Rattle.read_list.specs.Inner.Shown.{listed_of, list_result}
use Rattle.read_list.proofs.Listing.{behind_count, count-refused, count-read, CountThen}

-- what reading the count showed and added
abbrev CountRead : Reader ℕ → Bytes → ℕ → Result (ℕ × Cursor) Refusal → List ℕ → List ℕ → Type 0
CountRead first s at z t t₁ = (z ≡ shown (first at (drop at s))) × Adds (first at (drop at s)) (count.number at (drop at s)) t t₁

module _ {A : Type 0} {first : Reader ℕ} {F : Form ℕ} {exact : Exact first F} {r : ℕ → Reader (List A)} {s : Bytes} {at : ℕ} {o : Read (Listed A)} (l : CountThen exact r s at o) {z : Result (ℕ × Cursor) Refusal} {t t₁ : List ℕ}
    (e : CountRead first s at z t t₁) where
  pub list_refused : {n : Spelling} {q : Refusal} → z ≡ Err q → (Err q ≡ list_result o) × Adds o n t t₁
  list_refused {q = q} told = (
    count-refused exact l.sized s at told e.0 ∙ sym (ap list_result l.whole),
    adds-not (l.whole ∙ ap (λ o. next o (behind_count r)) (shown_err (first at (drop at s)) q (sym told ∙ e.0))),
  )

  module _ {v : ℕ} {c : Cursor} (told : z ≡ Ok (v, c)) where
    shown_list : {x : Result Cursor Refusal} {y : Result (ListAt × Cursor) Refusal} → x ≡ cursor_result (r v c.at (drop c.at s)) → y ≡ listed_of x v c.at → y ≡ list_result o
    shown_list p q = count-read exact l.sized s at told e.0 p q ∙ sym (ap list_result l.whole)

    pub list_run : {x : Result Cursor Refusal} {y : Result (ListAt × Cursor) Refusal} → x ≡ cursor_result (r v c.at (drop c.at s)) → y ≡ listed_of x v c.at → (y ≡ list_result o) × Adds o (count.number at (drop at s)) t t₁
    list_run p q = (shown_list p q, adds-of (sym l.whole) (adds-value (first at (drop at s)) (behind_count r) e.1))

    was : first at (drop at s) ≡ ok v c.at (drop c.at s)
    was = onward exact s at (shown_ok (first at (drop at s)) v c (sym told ∙ e.0))

    alike : first at (drop at s) ≡ number at (drop at s)
    alike = was ∙ sym (l.own was)

    pub list_room : Room t at → Room t₁ c.at
    list_room room = room-on (covers_few exact_number tells_number few_number) at (drop at s) room (l.own was) (adds-of alike e.1)

-- the same, of items each read by r, of which k is the count
module _ {A : Type 0} {first : Reader ℕ} {F : Form ℕ} {exact : Exact first F} {r : Reader A} {s : Bytes} {at : ℕ} {o : Read (Listed A)} (l : CountThen exact (λ n. many n r) s at o) (k : Count) {z : Result (ℕ × Cursor) Refusal} {t t₁ : List ℕ}
    (e : CountRead first s at z t t₁) {v : ℕ} {c : Cursor} (told : z ≡ Ok (v, c)) where
  pub list_all : {x : Result Cursor Refusal} {y : Result (ListAt × Cursor) Refusal} {t₂ : List ℕ} → (x ≡ cursor_result (many v r c.at (drop c.at s))) × Adds (many v r c.at (drop c.at s)) (count.many v r k c.at (drop c.at s)) t₁ t₂ → y ≡ listed_of x v c.at → (y ≡ list_result o) × Adds o (count.counted r k at (drop at s)) t t₂
  list_all items q = (
    shown_list l e told items.0 q,
    adds-of (ap (λ o. next o (behind_count (λ n. many n r))) (sym (alike l e told)) ∙ sym l.whole)
        (adds_then number count.number (behind_count (λ n. many n r)) (λ n. count.many n r k) at (drop at s) (l.own (was l e told)) (adds-of (alike l e told) e.1)
        (adds-value (many v r c.at (drop c.at s)) (λ items. give (record { place = c.at; items = items })) items.1)),
  )

  pub list_none : {y : Result (ListAt × Cursor) Refusal} → v ≡ 0 → y ≡ listed_of (Ok c) v c.at → (y ≡ list_result o) × Adds o (count.counted r k at (drop at s)) t t₁
  list_none zero = list_all {x = Ok c} {t₂ = t₁} (rw zero (refl, adds_none))
