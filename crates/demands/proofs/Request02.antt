-- REQUEST 2 (02, item 2): two more columns in the index. Each sentence of it once, of what `function_index` answers and leaves in the numbers lent to it (`shown_index`, `index_written`, crates/index/specs/Index.antt;
-- that it does is Demand2.antt, `function-index`, and behind C Demand2C.antt, `index`).
--     index_size          "An index for n functions now takes 14 times n numbers"
--     row                 "Each index row grows from 12 to 14 numbers": from number 14 f on stand those of function f, the first twelve as they were, then the rows of the functions behind it
--     columns             "The new ones are, last in the row, the place of the first instruction word and the place of the first constant": those of the reading
--     code-there          at these places the words and the constants of that function are read again, as many as there are
--     (AfterCounts.antt, `after-counts`: "For an empty list it is the place just after its count", and so it is for every list, however its count is spelt)
--     shown-there         so do the calls behind C: from these places on `lafzimdo_word_at` shows the words, and `lafzimdo_constant_at` the constants
--     written             where 14 n numbers or more are lent, the index is written at their front, and what stood behind it stays
--     columns_written     so there the two places stand
--     too_short           "and refusal 26 is judged by that": where fewer are lent the answer is 26, and they are as they were
--     judged_last         after every other refusal: a chunk that is refused is refused so, however few are lent, and they are as they were
-- Assumes nothing.
use Rattle.std.specs.Prelude.{Ok, Err}
use mathlib.Core.Path.{◌≡◌, refl, ◌∙◌, ap}
use mathlib.Core.List.{List, [], ◌∷◌, ◌++◌}
use mathlib.Core.Option.{Option, some}
use Prim.Native.Nat.{ℕ, zero, suc, ◌+◌, ◌*◌, ◌≤◌, ◌<◌}
use native.Mathlib.Nat.{zero-add, suc-add}
use native.Mathlib.Omega.{arith}
use lib.ListN.{length, drop, get_elem?}
use lib.Seq.{drop-append-add}
use Rattle.format.specs.declared.limits.ResourceLimits.{ResourceLimits}
use Rattle.format.specs.declared.refusal.Refusal.{Refusal}
use Rattle.format.specs.declared.refusal.Refusal.TheVariants.{LentSpace}
use Rattle.format.specs.Form.{Bytes}
use Rattle.format.specs.Reading.{Prototype, Reading}
use Rattle.format.specs.Read.{many}
use Rattle.format.specs.ReadFields.{field}
use Rattle.format.specs.ReadChunk.{constant, shown, refusal, read}
use Rattle.format.proofs.Located.{Found}
use Rattle.index.specs.Index.{index, shown_index, index_written}
use Rattle.index.proofs.Whole.{index-length}
use Rattle.c_boundary.specs.Status.{limits_of}
use Rattle.c_entries_at.specs.EntryNumbers.{word_at, constant_at}
use Rattle.demands.proofs.Calls.{located, shows, refuses}
use Rattle.demands.proofs.ShownAt.{constant_in_numbers, Numbered, Entries, shown-at}

-- ## The rows
pub index_size : (ps : List Prototype) → length (index ps) ≡ 14 * length ps
index_size ps = index-length ps

pub row : (ps : List Prototype) (f : ℕ) (p : Prototype) → get_elem? ps f ≡ some p
    → drop (14 * f) (index ps)
    ≡ (p.start ∷ p.end ∷ p.depth ∷ p.parent
    ∷ length p.instructions ∷ length p.constants ∷ length p.upvalues ∷ p.protos ∷ length p.line_info_lem ∷ length p.abs_line_info ∷ length p.loc_vars ∷ length p.upvalue_names_lem
    ∷ p.places.instructions ∷ p.places.constants ∷ []) ++ index (drop (suc f) ps)
row [] f p e = absurd (let z : ◌≡◌ {A = ℕ} 0 1 = cc in omega arith)
row (q ∷ ps) zero p e = let same : q ≡ p = cc in ap (λ p. index (p ∷ ps)) same
row (q ∷ ps) (suc f) p e =
    let next : 14 * suc f ≡ 14 + 14 * f = omega arith in
    ap (λ k. drop k (index (q ∷ ps))) next ∙ drop-append-add (index (q ∷ [])) (index ps) (14 * f) ∙ row ps f p e

nth_behind : (k i : ℕ) (l : List ℕ) → get_elem? l (k + i) ≡ get_elem? (drop k l) i
nth_behind zero i l = ap (get_elem? l) (zero-add i)
nth_behind (suc k) i [] = refl
nth_behind (suc k) i (x ∷ l) = ap (get_elem? (x ∷ l)) (suc-add k i) ∙ nth_behind k i l

pub columns : (ps : List Prototype) (f : ℕ) (p : Prototype) → get_elem? ps f ≡ some p
    → (get_elem? (index ps) (14 * f + 12) ≡ some p.places.instructions) × (get_elem? (index ps) (14 * f + 13) ≡ some p.places.constants)
columns ps f p there = (
  nth_behind (14 * f) 12 (index ps) ∙ ap (λ l. get_elem? l 12) (row ps f p there),
  nth_behind (14 * f) 13 (index ps) ∙ ap (λ l. get_elem? l 13) (row ps f p there),
)

-- ## What stands at the places
-- a number that stands in a column is the place
same_place : {column : Option ℕ} {place at : ℕ} → column ≡ some place → column ≡ some at → place ≡ at
same_place e d = cc

module _ (L : ResourceLimits) (s : Bytes) (r : Reading) (is : read L s ≡ shown r) (f : ℕ) (p : Prototype) (there : get_elem? r.functions f ≡ some p) (words constants : ℕ)
    (at_words : get_elem? (index r.functions) (14 * f + 12) ≡ some words) (at-constants : get_elem? (index r.functions) (14 * f + 13) ≡ some constants) where
  pub code-there : Found s (many (length p.instructions) (field 4)) words p.instructions × Found s (many (length p.constants) (constant L.max_string_bytes)) constants p.constants
  code-there =
      let own = columns r.functions f p there in
      let lists = located L s r is f p there in
      (rw (← same_place own.0 at_words) lists.instructions, rw (← same_place own.1 at-constants) lists.constants)

-- limits are an array of nine numbers
module _ (l : List ℕ) (s : Bytes) (r : Reading) (is : read (limits_of l) s ≡ shown r) (f : ℕ) (p : Prototype) (there : get_elem? r.functions f ≡ some p) (words constants : ℕ)
    (at_words : get_elem? (index r.functions) (14 * f + 12) ≡ some words) (at-constants : get_elem? (index r.functions) (14 * f + 13) ≡ some constants) where
  pub shown-there : Entries (λ at. word_at l at s) (Numbered (λ w. w ∷ [])) words p.instructions × Entries (λ at. constant_at l at s) (Numbered constant_in_numbers) constants p.constants
  shown-there =
      let own = columns r.functions f p there in
      let lists = shown-at l s r is f there in
      (rw (← same_place own.0 at_words) lists.words, rw (← same_place own.1 at-constants) lists.constants)

-- ## What is lent
module _ (L : ResourceLimits) (s : Bytes) (r : Reading) (is : read L s ≡ shown r) (old : List ℕ) where
  module _ (room : 14 * length r.functions ≤ length old) where
    pub written : (shown_index (length old) (read L s) ≡ Ok (length r.functions)) × (index_written old (read L s) ≡ index r.functions ++ drop (14 * length r.functions) old)
    written =
        let size = index_size r.functions in
        let both = (shows L s r is).index_rows old (omega arith) in
        (both.0, both.1 ∙ ap (λ n. index r.functions ++ drop n old) size)

    nth_front : (xs ys : List ℕ) (k : ℕ) {x : ℕ} → get_elem? xs k ≡ some x → get_elem? (xs ++ ys) k ≡ some x
    nth_front [] ys k e = absurd (let z : ◌≡◌ {A = ℕ} 0 1 = cc in omega arith)
    nth_front (y ∷ xs) ys zero e = e
    nth_front (y ∷ xs) ys (suc k) e = nth_front xs ys k e

    pub columns_written : (f : ℕ) (p : Prototype) → get_elem? r.functions f ≡ some p
        → (get_elem? (index_written old (read L s)) (14 * f + 12) ≡ some p.places.instructions) × (get_elem? (index_written old (read L s)) (14 * f + 13) ≡ some p.places.constants)
    columns_written f p there =
        let own = columns r.functions f p there in (
          ap (λ l. get_elem? l (14 * f + 12)) written.1 ∙ nth_front (index r.functions) _ (14 * f + 12) own.0,
          ap (λ l. get_elem? l (14 * f + 13)) written.1 ∙ nth_front (index r.functions) _ (14 * f + 13) own.1,
        )

  pub too_short : length old < 14 * length r.functions → (shown_index (length old) (read L s) ≡ Err LentSpace) × (index_written old (read L s) ≡ old)
  too_short short = let size = index_size r.functions in (shows L s r is).index_too_long old (omega arith)

pub judged_last : (L : ResourceLimits) (s : Bytes) (q : Refusal) → read L s ≡ refusal q → (old : List ℕ) → (shown_index (length old) (read L s) ≡ Err q) × (index_written old (read L s) ≡ old)
judged_last L s q is old = (refuses L s q is).index_rows old
