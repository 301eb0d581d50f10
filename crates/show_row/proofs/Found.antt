-- An entry by its number: from the place of its list to the entry of the reading, for any kind of entry.
-- Assumes nothing.
use Rattle.std.specs.Prelude.{Ok, Err}
use mathlib.Core.Path.{◌≡◌, refl, sym, ◌∙◌, ap}
use mathlib.Core.Bool.{Bool, true, false, cond}
use mathlib.Core.List.{List, [], ◌∷◌}
use mathlib.Core.Option.{Option, none, some}
use Prim.Native.Nat.{ℕ, zero, suc, ◌≤◌, ◌<◌}
use native.Mathlib.Omega.{arith}
use borrow.Author.Tests.{ltb-true, ltb-false}
use lib.Dec.{ltb}
use lib.ListN.{length, drop, get_elem?}
use Rattle.format.specs.declared.limits.ResourceLimits.{ResourceLimits}
use Rattle.format.specs.declared.refusal.Refusal.{Refusal}
use Rattle.format.specs.declared.refusal.Refusal.TheVariants.{NoFunction, NoEntry}
use Rattle.format.specs.Form.{Bytes}
use Rattle.format.specs.Reading.{Prototype}
use Rattle.format.specs.Read.{Read, ok, Reader}
use Rattle.format.specs.ReadChunk.{Outcome, shown, refusal, read}
use Rattle.format.proofs.Located.{Found, Located}
use Rattle.slice.specs.declared.cursor.Cursor.{Cursor}
use Rattle.slice.specs.Shown.{cursor_at}
use Rattle.read_prototype.specs.Inner.Row.{row_of, list_at}
use Rattle.show_row.specs.declared.place.EntryKind.{EntryKind}
use Rattle.show_row.specs.Asked.{Asked, found, refused, or_refuse, function_of, entry_in, entry_of}
use Rattle.show_row.specs.Inner.Places.{list_of, place_in, shown_place}
use Rattle.show_row.proofs.Whole.{all_nth, whole}

-- ## Items by number
nth_beyond : {A : Type 0} (i : ℕ) (xs : List A) → length xs ≤ i → get_elem? xs i ≡ none
nth_beyond i [] h = refl
nth_beyond zero (x ∷ xs) h = absurd (omega arith)
nth_beyond (suc i) (x ∷ xs) h = nth_beyond i xs (omega arith)

record Item {A : Type 0} (i : ℕ) (xs : List A) : Type 0 where
  item : A
  is : get_elem? xs i ≡ some item

nth_there : {A : Type 0} (i : ℕ) (xs : List A) → i < length xs → Item i xs
nth_there i [] h = absurd (omega arith)
nth_there zero (x ∷ xs) h = record { item = x; is = refl }
nth_there (suc i) (x ∷ xs) h = let rest = nth_there i xs (omega arith) in record { item = rest.item; is = rest.is }

-- ## A function of the reading
pub found_located : (L : ResourceLimits) (s : Bytes) (f : ℕ) (o : Outcome) → read L s ≡ o → {p : Prototype} → function_of f o ≡ found p → Located L s p
found_located L s f (shown r) e {p} is = by (get_elem? r.functions f) refl is
  where
    by : (o : Option Prototype) → get_elem? r.functions f ≡ o → or_refuse NoFunction o ≡ found p → Located L s p
    by none q is = absurd (let z : ◌≡◌ {A = ℕ} 0 1 = cc in omega arith)
    by (some x) q is = all_nth (Located L s) r.functions (whole L s r e).located f (q ∙ (let same : x ≡ p = cc in ap some same))
found_located L s f (refusal q) e is = absurd (let z : ◌≡◌ {A = ℕ} 0 1 = cc in omega arith)

-- ## An entry
-- the list `items` of a function stands at `at`; `one` reads its item i
module _ (L : ResourceLimits) (s : Bytes) (f i : ℕ) (kind : EntryKind) {A : Type 0} (items : Prototype → List A) (at : Prototype → ℕ) (lists : (p : Prototype) → list_of kind (row_of p) ≡ list_at (items p) (at p)) where
  no_entry_lem : (a : Asked Prototype) (q : Refusal) → Err q ≡ shown_place kind i a → entry_in items i a ≡ refused q
  no_entry_lem (refused p) q e = cc
  no_entry_lem (found p) q e = by (ltb i (length (items p))) refl (e ∙ ap (λ l. place_in l i) (lists p))
    where
      by : (b : Bool) → ltb i (length (items p)) ≡ b → Err q ≡ cond b (Ok (cursor_at (at p))) (Err NoEntry) → or_refuse NoEntry (get_elem? (items p) i) ≡ refused q
      by true t e = absurd (let z : ◌≡◌ {A = ℕ} 0 1 = cc in omega arith)
      by false t e = ap (or_refuse NoEntry) (nth_beyond i (items p) (ltb-false i (length (items p)) t)) ∙ (let same : NoEntry ≡ q = cc in ap refused same)

  -- where the list is refused the entry is, with the same refusal
  pub entry_refused : (q : Refusal) → Err q ≡ shown_place kind i (function_of f (read L s)) → entry_of items f i (read L s) ≡ refused q
  entry_refused q e = no_entry_lem (function_of f (read L s)) q e

  -- where it is found: the function, and the entry
  pub record Entry (c : Cursor) : Type 0 where
    pub proto : Prototype
    pub located : Located L s proto
    pub place : c.at ≡ at proto
    pub value : A
    pub item : get_elem? (items proto) i ≡ some value
    pub is : entry_of items f i (read L s) ≡ found value

  pub entry_there : (c : Cursor) → Ok c ≡ shown_place kind i (function_of f (read L s)) → Entry c
  entry_there c e = by (function_of f (read L s)) refl e
    where
      in_list : (p : Prototype) → function_of f (read L s) ≡ found p → (b : Bool) → ltb i (length (items p)) ≡ b → Ok c ≡ cond b (Ok (cursor_at (at p))) (Err NoEntry) → Entry c
      in_list p is true t e =
          let x = nth_there i (items p) (ltb-true i (length (items p)) t) in
          let here : c ≡ cursor_at (at p) = cc in
          record {
            proto = p;
            located = found_located L s f (read L s) refl is;
            place = ap (λ c. c.at) here;
            value = x.item;
            item = x.is;
            is = ap (entry_in items i) is ∙ ap (or_refuse NoEntry) x.is;
          }
      in_list p is false t e = absurd (let z : ◌≡◌ {A = ℕ} 0 1 = cc in omega arith)

      by : (a : Asked Prototype) → function_of f (read L s) ≡ a → Ok c ≡ shown_place kind i a → Entry c
      by (found p) is e = in_list p is (ltb i (length (items p))) refl (e ∙ ap (λ l. place_in l i) (lists p))
      by (refused q) is e = absurd (let z : ◌≡◌ {A = ℕ} 0 1 = cc in omega arith)

  -- what a call shows of the entry that it read
  module _ (one : Reader A) (reach : (p : Prototype) → Located L s p → (x : A) → get_elem? (items p) i ≡ some x → Found s one (at p) x) {X : Type 0} (of : Read A → X) (shows : Asked A → X)
      (same : (x : A) (to : ℕ) (rest : Bytes) → of (ok x to rest) ≡ shows (found x)) where
    pub entry_shown : (c : Cursor) → Ok c ≡ shown_place kind i (function_of f (read L s)) → of (one c.at (drop c.at s)) ≡ shows (entry_of items f i (read L s))
    entry_shown c e =
        let x = entry_there c e in
        let there = reach x.proto x.located x.value x.item in
        ap (λ at. of (one at (drop at s))) x.place ∙ ap of there.is ∙ same x.value there.to there.rest ∙ sym (ap shows x.is)
