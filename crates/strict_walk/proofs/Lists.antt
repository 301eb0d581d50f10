-- Lists behind their counts, passed over: what the code shows of the count and of the end of the items is what the reader shows of the list.
--     count_passes     for any reader of a count, and of as many items: the end
--     length-read      the length too
--     up_to, code_is   a list whose count is held to limits, by a reader of that count
-- A count that is held to a limit: read_list's `held-..`, where nothing is counted.
-- Assumes nothing.
use Rattle.std.specs.Prelude.{Result, Ok, Err}
use Rattle.read_list.specs.declared.ListAt.{ListAt}
use mathlib.Core.Path.{◌≡◌, refl, sym, ◌∙◌, ap}
use mathlib.Core.List.{List, []}
use Prim.Native.Nat.{ℕ, ◌+◌, ◌<◌, ◌≤◌}
use lib.Dec.{leb}
use lib.ListN.{drop}
use Rattle.format.specs.declared.refusal.Refusal.{Refusal}
use Rattle.format.specs.declared.refusal.Refusal.TheVariants.{Instructions, TotalInstructions}
use Rattle.format.specs.Form.{Bytes, Form}
use Rattle.format.specs.GrammarChunk.{Listed}
use Rattle.format.specs.Read.{Read, ok, refused, Reader, next, ◌>>=◌, ◌>>◌, at_most, many}
use Rattle.format.specs.ReadFields.{field}
use Rattle.format.proofs.Exact.{Exact}
use Rattle.format_spelling.proofs.Tallies.{adds_none}
use Rattle.format_strict.specs.GrammarStrict.{Int}
use Rattle.format_strict.specs.ReadStrict.{int, strict_counted_up_to}
use Rattle.format_strict.proofs.ExactStrict.{exact_int}
use Rattle.slice.specs.declared.cursor.Cursor.{Cursor}
use Rattle.slice.specs.Inner.Results.{cursor_result}
use Rattle.read_field.specs.Shown.{shown}
use Rattle.read_field.proofs.Shows.{onward, shown_ok}
use Rattle.read_list.specs.Inner.Shown.{listed_of, list_result}
use Rattle.read_list.proofs.Listing.{Sized, behind_count, Held, exact_held, held, held_above, held-within, tested_then, count-read}
use Rattle.strict_entry.proofs.Chains.{value}
use Rattle.strict_walk.specs.Inner.StrictParts.{int_up_to, strict_code_count, strict_code}
use Rattle.strict_walk.specs.Inner.Results.{length_result}

-- ## A count within a limit
module _ {r : Reader ℕ} {F : Form ℕ} (exact : Exact r F) (f : ℕ → ℕ) (limit : ℕ) (q : Refusal) (s : Bytes) (at : ℕ) {z : Result (ℕ × Cursor) Refusal} (e : z ≡ shown (r at (drop at s))) where
  pub within_above : {v : ℕ} {c : Cursor} → z ≡ Ok (v, c) → limit < f v → Err q ≡ shown (held r f limit q at (drop at s))
  within_above told h = (held_above exact f limit q s at (e, adds_none {t = []}) told h).0

  pub within_limit : {v : ℕ} {c : Cursor} → z ≡ Ok (v, c) → f v ≤ limit → Ok (v, c) ≡ shown (held r f limit q at (drop at s))
  within_limit told h = (held-within exact f limit q s at (e, adds_none {t = []}) told h).0

pub exact_int_up_to : (limit : ℕ) (q : Refusal) → Exact (int_up_to limit q) (Held Int (λ n. n) limit)
exact_int_up_to limit q = exact_held exact_int (λ n. n) limit q

pub exact_code_count : (per-proto before total at : ℕ) → Exact (held (int_up_to per-proto (Instructions at)) (λ n. before + n) total (TotalInstructions at)) (Held (Held Int (λ n. n) per-proto) (λ n. before + n) total)
exact_code_count per-proto before total at = exact_held (exact_int_up_to per-proto (Instructions at)) (λ n. before + n) total (TotalInstructions at)

-- ## The end of a list
module _ {A : Type 0} {count : Reader ℕ} {F : Form ℕ} (exact : Exact count F) (r : ℕ → Reader (List A)) (s : Bytes) (at : ℕ) {z : Result (ℕ × Cursor) Refusal} (e : z ≡ shown (count at (drop at s))) where
  pub count_passes : {v : ℕ} {c : Cursor} → z ≡ Ok (v, c) → {y : Result Cursor Refusal} → y ≡ cursor_result (r v c.at (drop c.at s)) → y ≡ cursor_result ((count >>= behind_count r) at (drop at s))
  count_passes {v} {c} told rest =
      rest ∙ sym (ap (λ o. cursor_result (next o (behind_count r))) (onward exact s at (shown_ok (count at (drop at s)) v c (sym told ∙ e))) ∙ value (r v c.at (drop c.at s)) (λ items. record { place = c.at; items = items }))

-- ## Its length too
abbrev pub length_of : Result (ListAt × Cursor) Refusal → Result (ℕ × Cursor) Refusal
length_of (Ok (l, c)) = Ok (l.count, c)
length_of (Err q) = Err q

length-is : {A : Type 0} (o : Read (Listed A)) → length_of (list_result o) ≡ length_result o
length-is (ok l to rest) = refl
length-is (refused q) = refl

module _ {A : Type 0} {count : Reader ℕ} {F : Form ℕ} (exact : Exact count F) (r : ℕ → Reader (List A)) (sized : (n : ℕ) → Sized (r n) n) (s : Bytes) (at : ℕ) {z : Result (ℕ × Cursor) Refusal} (e : z ≡ shown (count at (drop at s))) where
  pub length-read : {v : ℕ} {c : Cursor} → z ≡ Ok (v, c) → {x : Result Cursor Refusal} → x ≡ cursor_result (r v c.at (drop c.at s)) → length_of (listed_of x v c.at) ≡ length_result ((count >>= behind_count r) at (drop at s))
  length-read told p = ap length_of (count-read exact sized s at told e p refl) ∙ length-is ((count >>= behind_count r) at (drop at s))

-- ## Counts that are held to limits
pub up_to : {A : Type 0} (limit : ℕ) (above : ℕ → Refusal) (r : Reader A) (at : ℕ) (s : Bytes) → strict_counted_up_to limit above r at s ≡ (int_up_to limit (above at) >>= behind_count (λ n. many n r)) at s
up_to limit above r at s = tested_then (λ n. leb n limit) (above at) (behind_count (λ n. many n r)) (int at s)

pub code_is : (per-proto before total at : ℕ) (s : Bytes) → strict_code per-proto before total at s ≡ next (strict_code_count per-proto before total at s) (behind_count (λ n. many n (field 4)))
code_is per-proto before total at s =
    tested_then (λ n. leb n per-proto) (Instructions at) (λ n. at_most (before + n) total (TotalInstructions at) >> behind_count (λ n. many n (field 4)) n) (int at s)
    ∙ tested_then (λ n. leb (before + n) total) (TotalInstructions at) (behind_count (λ n. many n (field 4))) (int_up_to per-proto (Instructions at) at s)
