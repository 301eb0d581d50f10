-- Lists behind their counts: what the code shows of the count and of the end of the items is what the reader shows of the list.
--     Sized            a reader of items reads n of them
--     behind_count      the place, and n items: what follows a count
--     count-..         for any reader of a count, and of as many items
--     held, held-..    a count within a limit, and what is counted of it
--     up-to-..         for `countedUpTo`
--     ListAt, ..-list  what each list is made of
-- Assumes nothing.
use Rattle.std.specs.Prelude.{Result, Ok, Err}
use Rattle.read_list.specs.declared.ListAt.{ListAt}
use mathlib.Core.Path.{◌≡◌, refl, sym, ◌∙◌, ap}
use mathlib.Core.Bool.{Bool, true, false}
use mathlib.Core.List.{List}
use Prim.Native.Nat.{ℕ, ◌<◌, ◌≤◌}
use native.Mathlib.Omega.{arith}
use borrow.Author.Tests.{le-leb, lt-leb}
use lib.Dec.{leb}
use lib.ListN.{length, drop}
use Rattle.format.specs.declared.refusal.Refusal.{Refusal}
use Rattle.format.specs.declared.spelling.Spelling.{Spelling}
use Rattle.format.specs.Form.{Bytes, Form, Then, Is, Given}
use Rattle.format.specs.GrammarFields.{Number}
use Rattle.format.specs.GrammarChunk.{Listed}
use Rattle.format.specs.Read.{Read, ok, refused, Reader, next, ◌>>=◌, ◌>>◌, give, here, test, at_most, run, many}
use Rattle.format.specs.ReadFields.{number}
use Rattle.format.specs.ReadChunk.{counted, counted_up_to}
use Rattle.format.proofs.Exact.{Exact, exact_give, exact_then, exact_at_most, exact_run, exact_many}
use Rattle.format.proofs.Every.{any, every_run, every_many}
use Rattle.format.proofs.ExactFields.{exact_number}
use Rattle.format_spelling.specs.Inner.Tally.{Adds}
use Rattle.format_spelling.proofs.Tallies.{adds-value}
use Rattle.format_spelling.proofs.Passing.{Ran, ran, past}
use Rattle.slice.specs.declared.cursor.Cursor.{Cursor}
use Rattle.slice.specs.Shown.{cursor_at}
use Rattle.slice.specs.Inner.Results.{cursor_result}
use Rattle.read_field.specs.Shown.{shown}
use Rattle.read_field.proofs.Shows.{Was, onward, shown_err, shown_ok, shown_as_err, shown_as_ok}
use Rattle.read_entry.specs.Readers.{line_info}
use Rattle.read_entry.specs.Inner.Counts.{count_up_to}
use Rattle.read_list.specs.Inner.Shown.{listed_of, list_result, list_at}

-- ## How many items are read
pub record Sized {A : Type 0} (r : Reader (List A)) (n : ℕ) : Type 0 where
  pub size : (at : ℕ) (s : Bytes) {xs : List A} {to : ℕ} {rest : Bytes} → r at s ≡ ok xs to rest → length xs ≡ n

pub many_sized : {A : Type 0} {r : Reader A} {F : Form A} → Exact r F → (n : ℕ) → Sized (many n r) n
many_sized {F} exact n = record { size = λ at s {xs} e. let a = (exact_many n exact).sound {at = at} {s = s} e in ((every_many n (any {F = F})).holds at a.bytes xs a.spelt).0 }

pub run_sized : (n : ℕ) → Sized (run n) n
run_sized n = record { size = λ at s {xs} e. let a = (exact_run n).sound {at = at} {s = s} e in (every_run n).holds at a.bytes xs a.spelt }

-- ## Behind a count
abbrev pub behind_count : {A : Type 0} → (ℕ → Reader (List A)) → ℕ → Reader (Listed A)
behind_count r n = here >>= λ place. r n >>= λ items. give (record { place = place; items = items })

listed-shown : {A : Type 0} (n place : ℕ) (o : Read (List A)) → ((xs : List A) (to : ℕ) (rest : Bytes) → o ≡ ok xs to rest → length xs ≡ n)
    → listed_of (cursor_result o) n place ≡ list_result (next o (λ items. give (record { place = place; items = items })))
listed-shown n place (ok xs to rest) size = rw (size xs to rest refl)
listed-shown n place (refused q) size = refl

module _ {A : Type 0} {count : Reader ℕ} {F : Form ℕ} (exact : Exact count F) {r : ℕ → Reader (List A)} (sized : (n : ℕ) → Sized (r n) n) (s : Bytes) (at : ℕ) where
  pub count-refused : {z : Result (ℕ × Cursor) Refusal} {q : Refusal} → z ≡ Err q → z ≡ shown (count at (drop at s)) → Err q ≡ list_result ((count >>= behind_count r) at (drop at s))
  count-refused {q} told e = rw (shown_err (count at (drop at s)) q (sym told ∙ e))

  -- x is what passing over the items showed
  pub count-read : {z : Result (ℕ × Cursor) Refusal} {v : ℕ} {c : Cursor} → z ≡ Ok (v, c) → z ≡ shown (count at (drop at s)) → {x : Result Cursor Refusal} {y : Result (ListAt × Cursor) Refusal} → x ≡ cursor_result (r v c.at (drop c.at s)) → y ≡ listed_of x v c.at
      → y ≡ list_result ((count >>= behind_count r) at (drop at s))
  count-read {v} {c} told e p q =
      rw (onward exact s at (shown_ok (count at (drop at s)) v c (sym told ∙ e)), q, p)
      (listed-shown v c.at (r v c.at (drop c.at s)) (λ xs to rest d. (sized v).size c.at (drop c.at s) d))

-- ## A count within a limit
-- what r gives, where f of it is at most the limit
abbrev pub held : Reader ℕ → (ℕ → ℕ) → ℕ → Refusal → Reader ℕ
held r f limit q = r >>= λ n. at_most (f n) limit q >> give n

abbrev pub Held : Form ℕ → (ℕ → ℕ) → ℕ → Form ℕ
Held F f limit = Then F λ n. Then (Given (f n ≤ limit)) λ _. Is n

pub exact_held : {r : Reader ℕ} {F : Form ℕ} → Exact r F → (f : ℕ → ℕ) (limit : ℕ) (q : Refusal) → Exact (held r f limit q) (Held F f limit)
exact_held exact f limit q = exact_then exact λ n. exact_then (exact_at_most (f n) limit q) λ _. exact_give n

-- it is what r gives
pub held-is : (r : Reader ℕ) (f : ℕ → ℕ) (limit : ℕ) (q : Refusal) (at : ℕ) (s : Bytes) {v to : ℕ} {rest : Bytes} → held r f limit q at s ≡ ok v to rest → r at s ≡ ok v to rest
held-is r f limit q at s {v} {to} {rest} e =
    let a : Ran r (λ n. at_most (f n) limit q >> give n) at s v to rest = ran e in
    let b : ok a.value a.mid a.left ≡ ok v to rest = past (leb (f a.value) limit) q (give a.value) a.mid a.left a.two in
    a.one ∙ b

module _ {r : Reader ℕ} {F : Form ℕ} (exact : Exact r F) (f : ℕ → ℕ) (limit : ℕ) (q : Refusal) (s : Bytes) (at : ℕ) {n : Spelling} {t t' : List ℕ} {z : Result (ℕ × Cursor) Refusal}
    (e : (z ≡ shown (r at (drop at s))) × Adds (r at (drop at s)) n t t') where
  abbrev Met : Result (ℕ × Cursor) Refusal → Type 0
  Met y = (y ≡ shown (held r f limit q at (drop at s))) × Adds (held r f limit q at (drop at s)) n t t'

  same : Adds (held r f limit q at (drop at s)) n t t'
  same = adds-value (r at (drop at s)) (λ n. at_most (f n) limit q >> give n) e.1

  pub held-refused : {p : Refusal} → z ≡ Err p → Met (Err p)
  held-refused {p} told = (rw (shown_err (r at (drop at s)) p (sym told ∙ e.0)), same)

  module _ {v : ℕ} {c : Cursor} (told : z ≡ Ok (v, c)) where
    tested : held r f limit q at (drop at s) ≡ (at_most (f v) limit q >> give v) c.at (drop c.at s)
    tested = rw (onward exact s at (shown_ok (r at (drop at s)) v c (sym told ∙ e.0)))

    pub held_above : limit < f v → Met (Err q)
    held_above h = (rw (tested, lt-leb (f v) limit h), same)

    pub held-within : f v ≤ limit → Met (Ok (v, c))
    held-within h = (rw (tested, le-leb (f v) limit h), same)

pub exact_count_up_to : (limit : ℕ) (refusal : Refusal) → Exact (count_up_to limit refusal) (Held Number (λ n. n) limit)
exact_count_up_to limit refusal = exact_held exact_number (λ n. n) limit refusal

-- what follows a test, with what was tested handed on
test_then : {A B : Type 0} (b : Bool) (q : Refusal) (x : A) (f : A → Reader B) (at : ℕ) (s : Bytes) → (test b q >> f x) at s ≡ next ((test b q >> give x) at s) f
test_then true q x f at s = refl
test_then false q x f at s = refl

pub tested_then : {A B : Type 0} (b : A → Bool) (q : Refusal) (f : A → Reader B) (o : Read A) → next o (λ x. test (b x) q >> f x) ≡ next (next o (λ x. test (b x) q >> give x)) f
tested_then b q f (ok x to rest) = test_then (b x) q x f to rest
tested_then b q f (refused p) = refl

module _ {A : Type 0} {F : Form A} (limit : ℕ) (refusal : ℕ → Refusal) {r : Reader A} (exact : Exact r F) (s : Bytes) (at : ℕ) where
  up_to : counted_up_to limit refusal r at (drop at s) ≡ (count_up_to limit (refusal at) >>= behind_count (λ n. many n r)) at (drop at s)
  up_to = tested_then (λ n. leb n limit) (refusal at) (behind_count (λ n. many n r)) (number at (drop at s))

  pub up_to_refused : {z : Result (ℕ × Cursor) Refusal} {q : Refusal} → z ≡ Err q → z ≡ shown (count_up_to limit (refusal at) at (drop at s)) → Err q ≡ list_result (counted_up_to limit refusal r at (drop at s))
  up_to_refused told e = rw up_to (count-refused (exact_count_up_to limit (refusal at)) (many_sized exact) s at told e)

  pub up_to_read : {z : Result (ℕ × Cursor) Refusal} {v : ℕ} {c : Cursor} → z ≡ Ok (v, c) → z ≡ shown (count_up_to limit (refusal at) at (drop at s)) → {x : Result Cursor Refusal} {y : Result (ListAt × Cursor) Refusal} → x ≡ cursor_result (many v r c.at (drop c.at s)) → y ≡ listed_of x v c.at
      → y ≡ list_result (counted_up_to limit refusal r at (drop at s))
  up_to_read told e p q = rw up_to (count-read (exact_count_up_to limit (refusal at)) (many_sized exact) s at told e p q)

-- ## Lists of each kind
-- o is what a list gives: a reader of its count, which is a number, and of as many items
pub record CountThen {A : Type 0} {first : Reader ℕ} {F : Form ℕ} (exact : Exact first F) (r : ℕ → Reader (List A)) (s : Bytes) (at : ℕ) (o : Read (Listed A)) : Type 0 where
  pub own : {v to : ℕ} {rest : Bytes} → first at (drop at s) ≡ ok v to rest → number at (drop at s) ≡ ok v to rest
  pub sized : (n : ℕ) → Sized (r n) n
  pub whole : o ≡ (first >>= behind_count r) at (drop at s)

module _ {A : Type 0} {F : Form A} {r : Reader A} (exact : Exact r F) (s : Bytes) (at : ℕ) where
  pub counted_list : CountThen exact_number (λ n. many n r) s at (counted r at (drop at s))
  counted_list = record { own = λ e. e; sized = many_sized exact; whole = refl }

  pub up_to_list : (limit : ℕ) (refusal : ℕ → Refusal) → CountThen (exact_count_up_to limit (refusal at)) (λ n. many n r) s at (counted_up_to limit refusal r at (drop at s))
  up_to_list limit refusal = record { own = held-is number (λ n. n) limit (refusal at) at (drop at s); sized = many_sized exact; whole = up_to limit refusal exact s at }

pub line_info_list : (s : Bytes) (at : ℕ) → CountThen exact_number run s at (line_info at (drop at s))
line_info_list s at = record { own = λ e. e; sized = run_sized; whole = refl }

-- ## From what was shown back to what was read
pub list_err : {A : Type 0} (o : Read (Listed A)) (q : Refusal) → Err q ≡ list_result o → o ≡ refused q
list_err = shown_as_err list_at

pub record WasList {A : Type 0} (o : Read (Listed A)) (count place to : ℕ) : Type 0 where
  pub value : Listed A
  pub was : Was o value to
  pub counted : count ≡ length value.items
  pub placed : place ≡ value.place

pub list_ok : {A : Type 0} (o : Read (Listed A)) (count place : ℕ) (c : Cursor) → Ok ((record { count = count; place = place }), c) ≡ list_result o → WasList o count place c.at
list_ok o count place c e =
    let w = shown_as_ok list_at o (record { count = count; place = place }) c e in
    record { value = w.value; was = w.was; counted = ap (λ l. l.count) w.shows; placed = ap (λ l. l.place) w.shows }
