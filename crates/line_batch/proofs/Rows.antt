-- Of a function's row: what the writers wrote, and what the reading shows.
--     front_numbered, front-none   what the first writer writes
--     ready, done                  what both write, where nothing is refused
--     row_stops, row_goes, row_wrote   what the judge said, and what was written then
--     full_row                     the anchors of a row that was found are read
--     lines-shown                  and what is written of it is what the call writes
-- Assumes nothing.
use Rattle.std.specs.Prelude.{Result, Ok, Err}
use mathlib.Core.Path.{◌≡◌, refl, sym, ◌∙◌, ap}
use mathlib.Core.Bool.{cond}
use mathlib.Core.List.{List, [], ◌∷◌, ◌++◌}
use mathlib.Core.Option.{Option, none, some}
use Prim.Native.Nat.{ℕ, zero, suc, ◌≤◌}
use native.Mathlib.Nat.{zero-add}
use native.Mathlib.Omega.{arith}
use borrow.Author.Tests.{eq-eqb, ne_eqb}
use lib.Dec.{eqb}
use lib.IntN.{pos}
use lib.ListN.{length, drop, length-take, length-drop}
use Rattle.format.specs.Limits.{MOST}
use Rattle.format.specs.declared.entry.AbsLineInfo.{AbsLineInfo}
use Rattle.format.specs.declared.limits.ResourceLimits.{ResourceLimits}
use Rattle.format.specs.declared.refusal.Refusal.{Refusal}
use Rattle.format.specs.Form.{Bytes}
use Rattle.format.specs.Read.{Read, ok, refused, next, ◌>>=◌, give, many}
use Rattle.format.specs.Reading.{Prototype}
use Rattle.format.specs.ReadChunk.{anchor, read}
use Rattle.format.proofs.Exact.{never}
use Rattle.format.proofs.ExactChunk.{exact_anchor}
use Rattle.format.proofs.Left.{left}
use Rattle.format.proofs.Located.{Located}
use Rattle.format.proofs.Steps.{run_was}
use Rattle.slice.specs.Inner.Splice.{splice}
use Rattle.slice.proofs.Splices.{splice-length, splice-none, splice_front, splice_then}
use Rattle.read_prototype.specs.declared.row.FunctionRow.{FunctionRow}
use Rattle.read_prototype.specs.Inner.Row.{row_of}
use Rattle.show_row.specs.Asked.{Asked, function_of}
use Rattle.show_row.specs.Asked as asked
use Rattle.show_row.specs.Inner.Places.{shown_row_answer}
use Rattle.show_row.proofs.Found.{found_located}
use Rattle.line_batch.specs.declared.anchors.Anchors.{Anchors}
use Rattle.line_batch.specs.Batch.{refusal_of, answered, over_if, shown_lines, lines_written}
use Rattle.line_batch.specs.Inner.Anchors.{or_none, anchors_at, anchors_of}
use Rattle.line_batch.specs.Inner.Judged.{judged_by}
use Rattle.line_batch.specs.Inner.Numbered.{none_passed, numbered_from}
use Rattle.line_batch.specs.Inner.Walk.{Step, lines_from, end_of}
use Rattle.line_batch.specs.Inner.Steps.{Writable}
use Rattle.line_batch.specs.Inner.Rows.{deltas_in, all_in, anchors_in, row_refusal, row_numbered, row_lines, row_deltas_read}
use Rattle.line_batch.proofs.Whole.{Passes, passes, few, all_lines, all_reads, all_writable}
use Rattle.line_batch.proofs.Whole as whole

-- ## The first writer
module _ (s : Bytes) (row : FunctionRow) (pcs old : List ℕ) {all : Anchors} (is : all ≡ all_in row) where
  abbrev numbered : List ℕ
  numbered = numbered_from (all_in row).left (none_passed (anchors_in s row)) pcs

  pub front_numbered : all.left ≡ row.lists.instructions.count → {new : List ℕ} → new ≡ splice 0 (numbered_from all.left (none_passed (anchors_of s all)) pcs) old → {r : ℕ} → r ≡ length (numbered_from all.left (none_passed (anchors_of s all)) pcs)
      → (new ≡ splice 0 (row_numbered s row pcs) old) × (r ≡ length (row_numbered s row pcs))
  front_numbered e a b =
      let same : numbered_from all.left (none_passed (anchors_of s all)) pcs ≡ row_numbered s row pcs =
      ap (λ all. numbered_from all.left (none_passed (anchors_of s all)) pcs) is ∙ sym (ap (λ t. cond t numbered []) (eq-eqb (all_in row).left row.lists.instructions.count (sym (ap (λ all. all.left) is) ∙ e))) in
      (a ∙ ap (λ xs. splice 0 xs old) same, b ∙ ap length same)

  pub front-none : (all.left ≡ row.lists.instructions.count → ⊥) → (old ≡ splice 0 (row_numbered s row pcs) old) × (0 ≡ length (row_numbered s row pcs))
  front-none e =
      let same : [] ≡ row_numbered s row pcs = sym (ap (λ t. cond t numbered []) (ne_eqb (all_in row).left row.lists.instructions.count (λ same. e (ap (λ all. all.left) is ∙ same)))) in
      (sym (splice-none 0 old) ∙ ap (λ xs. splice 0 xs old) same, ap length same)

-- ## Both writers
module _ (s : Bytes) (row : FunctionRow) (space : ℕ) (pcs : List ℕ) (full : length (anchors_in s row) ≡ (all_in row).left) (go : row_refusal s row space pcs ≡ none) where
  pub allowed : Passes row.lines.line_defined (anchors_in s row) space pcs
  allowed = passes row.lines.line_defined (anchors_in s row) space pcs go

  abbrev numbers : List ℕ
  numbers = whole.numbers row.lists.instructions.count row.lines.line_defined (deltas_in s row) (anchors_in s row) space pcs allowed

  numbers_are : row_numbered s row pcs ≡ numbers
  numbers_are = ap (λ n. cond (eqb n row.lists.instructions.count) (numbered_from n (none_passed (anchors_in s row)) pcs) []) (sym full)

  abbrev pub start : Step
  start = record { left = anchors_in s row; at = 0; from = row.lines.line_defined; sum = pos 0; read = 0 }

  abbrev back : List ℕ → List ℕ
  back xs = drop (length xs) pcs

  rows_few : length (row_numbered s row pcs) ≤ length pcs
  rows_few = rw numbers_are (few row.lists.instructions.count row.lines.line_defined (deltas_in s row) (anchors_in s row) space pcs allowed)

  rows_written : (old : List ℕ) → length pcs ≤ length old
      → splice (length (row_numbered s row pcs)) (lines_from (deltas_in s row) start (back (row_numbered s row pcs))) (splice 0 (row_numbered s row pcs) old) ≡ splice 0 (row_lines s row pcs) old
  rows_written old room =
      ap (λ k. splice k (lines_from (deltas_in s row) start (back (row_numbered s row pcs))) (splice 0 (row_numbered s row pcs) old)) (sym (zero-add (length (row_numbered s row pcs))))
      ∙ splice_then 0 (row_numbered s row pcs) (lines_from (deltas_in s row) start (back (row_numbered s row pcs))) old (let fewer = rows_few in omega arith)
      ∙ ap (λ xs. splice 0 (xs ++ lines_from (deltas_in s row) start (back xs)) old) numbers_are
      ∙ ap (λ xs. splice 0 xs old) (all_lines row.lists.instructions.count row.lines.line_defined (deltas_in s row) (anchors_in s row) space pcs allowed)

  rows_read : (end_of (deltas_in s row) start (back (row_numbered s row pcs))).read ≡ row_deltas_read s row pcs
  rows_read = ap (λ xs. (end_of (deltas_in s row) start (back xs)).read) numbers_are ∙ all_reads row.lists.instructions.count row.lines.line_defined (deltas_in s row) (anchors_in s row) space pcs allowed

  rows_writable : length (deltas_in s row) ≤ MOST → Writable (deltas_in s row) start (back (row_numbered s row pcs))
  rows_writable short = rw numbers_are (all_writable row.lists.instructions.count row.lines.line_defined (deltas_in s row) (anchors_in s row) space pcs allowed short)

  -- with what the calls showed
  module _ {deltas : Bytes} (part : deltas ≡ deltas_in s row) {all : Anchors} (is : all ≡ all_in row) {k : ℕ} (numbered : k ≡ length (row_numbered s row pcs)) (old mid : List ℕ)
      (front : mid ≡ splice 0 (row_numbered s row pcs) old) (enough : space ≤ length old) where
    abbrev from : Step
    from = record { left = anchors_of s all; at = 0; from = row.lines.line_defined; sum = pos 0; read = 0 }

    pub ready : length s ≤ MOST → (length deltas ≤ MOST) × (length pcs ≤ length mid) × Writable deltas from (drop k pcs)
    ready h =
        let short : length (deltas_in s row) ≤ MOST = simp (length-take, length-drop) (omega arith) in
        let fewer = rows_few in
        let room = allowed.room in
        let size : length mid ≡ length old = ap length front ∙ splice-length 0 (row_numbered s row pcs) old (omega arith) in
        (rw part short, omega arith, rw (part, is, numbered) (rows_writable short))

    pub done : {new : List ℕ} → new ≡ splice k (lines_from deltas from (drop k pcs)) mid → {r : ℕ} → r ≡ (end_of deltas from (drop k pcs)).read → (new ≡ splice 0 (row_lines s row pcs) old) × (r ≡ row_deltas_read s row pcs)
    done e f =
        let room = allowed.room in
        (e ∙ rw (part, is, numbered, front) (rows_written old (omega arith)), f ∙ rw (part, is, numbered) rows_read)

-- ## The judge
stopped : (o : Option Refusal) (q : Refusal) → Err q ≡ judged_by o → (n : ℕ) (new old : List ℕ) → (Err q ≡ answered o n) × (old ≡ over_if o new old)
stopped none q e n new old = absurd (let z : ◌≡◌ {A = ℕ} 0 1 = cc in omega arith)
stopped (some p) q e n new old = (cc, refl)

went : (o : Option Refusal) → Ok tt ≡ judged_by o → o ≡ none
went none e = refl
went (some q) e = absurd (let z : ◌≡◌ {A = ℕ} 0 1 = cc in omega arith)

module _ (s : Bytes) (row : FunctionRow) (pcs old : List ℕ) {all : Anchors} (is : all ≡ all_in row) {says : Result (Unit {0}) Refusal} (by_test : says ≡ judged_by (refusal_of row.lines.line_defined (anchors_of s all) (length old) pcs)) where
  by_row : says ≡ judged_by (row_refusal s row (length old) pcs)
  by_row = by_test ∙ ap (λ all. judged_by (refusal_of row.lines.line_defined (anchors_of s all) (length old) pcs)) is

  pub row_stops : {q : Refusal} → says ≡ Err q
      → (Err q ≡ answered (row_refusal s row (length old) pcs) (row_deltas_read s row pcs)) × (old ≡ over_if (row_refusal s row (length old) pcs) (row_lines s row pcs) old)
  row_stops {q} e = stopped (row_refusal s row (length old) pcs) q (sym e ∙ by_row) (row_deltas_read s row pcs) (row_lines s row pcs) old

  pub row_goes : says ≡ Ok tt → row_refusal s row (length old) pcs ≡ none
  row_goes e = went (row_refusal s row (length old) pcs) (sym e ∙ by_row)

  pub row_wrote : says ≡ Ok tt → {m : ℕ} → m ≡ row_deltas_read s row pcs → {now : List ℕ} → now ≡ splice 0 (row_lines s row pcs) old
      → (Ok m ≡ answered (row_refusal s row (length old) pcs) (row_deltas_read s row pcs)) × (now ≡ over_if (row_refusal s row (length old) pcs) (row_lines s row pcs) old)
  row_wrote e is wrote = rw (row_goes e) (ap Ok is, wrote ∙ splice_front (row_lines s row pcs) old)

-- ## The function of the reading
-- anchors that are read are those that the code goes through
abbrev Same : Bytes → ℕ → ℕ → Type 0
Same s n at = (xs : List AbsLineInfo) (to : ℕ) (rest : Bytes) → many n anchor at (drop at s) ≡ ok xs to rest → anchors_at s n at ≡ xs

as_read : (s : Bytes) (n at : ℕ) → Same s n at
as_read s zero at xs to rest e = cc
as_read s (suc n) at xs to rest e = first (anchor at (drop at s)) refl e (as_read s n)
  where
    behind : (a : AbsLineInfo) (mid : ℕ) (o : Read (List AbsLineInfo)) → many n anchor mid (drop mid s) ≡ o → next o (λ ys. give (a ∷ ys)) ≡ ok xs to rest → Same s n mid → a ∷ anchors_at s n mid ≡ xs
    behind a mid (ok ys end t) p e go = let here = go ys end t p in cc
    behind a mid (refused q) p e go = absurd (never e)

    first : (o : Read AbsLineInfo) → anchor at (drop at s) ≡ o → next o (λ a. many n anchor >>= λ ys. give (a ∷ ys)) ≡ ok xs to rest → ((mid : ℕ) → Same s n mid) → or_none o (anchors_at s n) ≡ xs
    first (ok a mid t) p e go = behind a mid (many n anchor mid (drop mid s)) refl (rw (left exact_anchor s at p) at e) (go mid)
    first (refused q) p e go = absurd (never e)

module _ (L : ResourceLimits) (s : Bytes) (p : Prototype) (l : Located L s p) where
  anchors_are : anchors_in s (row_of p) ≡ p.abs_line_info
  anchors_are = as_read s (length p.abs_line_info) p.places.abs_line_info p.abs_line_info _ _ l.abs_line_info.is

  deltas_are : deltas_in s (row_of p) ≡ p.line_info_lem
  deltas_are = (run_was (length p.line_info_lem) p.places.line_info_lem (drop p.places.line_info_lem s) l.line_info_lem.is).1

  located_full : length (anchors_in s (row_of p)) ≡ (all_in (row_of p)).left
  located_full = ap length anchors_are

  located_shown : (old pcs : List ℕ) → let o = row_refusal s (row_of p) (length old) pcs in
      (answered o (row_deltas_read s (row_of p) pcs) ≡ shown_lines (length old) pcs (asked.found p)) × (over_if o (row_lines s (row_of p) pcs) old ≡ lines_written old pcs (asked.found p))
  located_shown old pcs = rw (anchors_are, deltas_are) (refl, refl)

pub lines-refused : (old pcs : List ℕ) (a : Asked Prototype) (q : Refusal) → Err q ≡ shown_row_answer a → (Err q ≡ shown_lines (length old) pcs a) × (old ≡ lines_written old pcs a)
lines-refused old pcs (asked.found p) q e = absurd (let z : ◌≡◌ {A = ℕ} 0 1 = cc in omega arith)
lines-refused old pcs (asked.refused p) q e = (cc, refl)

module _ (L : ResourceLimits) (s : Bytes) (f : ℕ) (x : FunctionRow) (e : Ok x ≡ shown_row_answer (function_of f (read L s))) where
  record Of : Type 0 where
    proto : Prototype
    is : function_of f (read L s) ≡ asked.found proto
    row_is : x ≡ row_of proto
    located : Located L s proto

  of : Of
  of = by (function_of f (read L s)) refl e
    where
      by : (a : Asked Prototype) → function_of f (read L s) ≡ a → Ok x ≡ shown_row_answer a → Of
      by (asked.found p) is e = record { proto = p; is = is; row_is = cc; located = found_located L s f (read L s) refl is }
      by (asked.refused q) is e = absurd (let z : ◌≡◌ {A = ℕ} 0 1 = cc in omega arith)

  pub full_row : length (anchors_in s x) ≡ (all_in x).left
  full_row = let o = of in rw o.row_is (located_full L s o.proto o.located)

  row_shown_lem : (old pcs : List ℕ) → let o = row_refusal s x (length old) pcs in
      (answered o (row_deltas_read s x pcs) ≡ shown_lines (length old) pcs (function_of f (read L s))) × (over_if o (row_lines s x pcs) old ≡ lines_written old pcs (function_of f (read L s)))
  row_shown_lem old pcs = let o = of in rw (o.row_is, o.is) (located_shown L s o.proto o.located old pcs)

  pub lines-shown : (old pcs : List ℕ) {r : Result ℕ Refusal} → r ≡ answered (row_refusal s x (length old) pcs) (row_deltas_read s x pcs) → {new : List ℕ} → new ≡ over_if (row_refusal s x (length old) pcs) (row_lines s x pcs) old
      → (r ≡ shown_lines (length old) pcs (function_of f (read L s))) × (new ≡ lines_written old pcs (function_of f (read L s)))
  lines-shown old pcs a b = let shows = row_shown_lem old pcs in (a ∙ shows.0, b ∙ shows.1)
