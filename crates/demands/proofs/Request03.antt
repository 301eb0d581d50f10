-- REQUEST 3 (02, item 3): the lines of a list of pcs. Each sentence of it once, about what `get_lines_for_pcs` and `lafzimdo_lines` show.
--     get_lines_for_pcs    the whole contract, met by the code; lafzimdo_lines: the same behind C
--     each_line            "Each line equals the single lookup's"; behind: what is lent beyond the lines stays
--     read_distinct        "how many line deltas were read, equal to the number of distinct deltas that the single lookups walk over", said with a list; the answer counts them by a test of each (specs/Batch.antt)
--     read_most            "so never more than the function has"
--     not-read             what no lookup walks over does not matter to the lines; and each delta that a lookup walks over does matter to its line (`walked_matters`): so the numbers counted are those that the lines depend on, no more and no fewer
--     empty_list           "An empty list that passes the checks answers with no lines and 0"
--     checks               "after 25 come 29 .. and 30 ..; 26 stays last": number and place of the refusal in the answer are those of the first of the conditions that holds (`for_lines`, Refused.antt); checks_in_c: behind C
--     accepted             and where none holds, the answer is Ok, with the function's lines
--     lines-kept           a call that refuses leaves lent memory as it was
-- Worked cases: crates/line_batch/proofs/Cases.antt. That two chunks with one reading answer alike: Complete.antt.
-- Assumes nothing.
use Rattle.std.specs.Prelude.{Result, Ok, Err}
use mathlib.Core.Path.{◌≡◌, refl, sym, ◌∙◌, ap}
use mathlib.Core.Bool.{Bool, true, false, cond}
use mathlib.Core.List.{List, [], ◌∷◌, ◌++◌, map}
use mathlib.Core.Option.{Option, none, some}
use Prim.Native.Nat.{ℕ, zero, suc, ◌+◌, ◌≤◌, ◌<◌}
use native.Mathlib.Omega.{arith}
use lib.Dec.{leb}
use lib.ListN.{length, drop, set, get_or, get_elem?, replicate, length-map}
use lib.Seq.{drop_at}
use Rattle.format.specs.declared.entry.AbsLineInfo.{AbsLineInfo}
use Rattle.format.specs.declared.limits.ResourceLimits.{ResourceLimits}
use Rattle.format.specs.declared.refusal.Refusal.{Refusal}
use Rattle.format.specs.declared.refusal.Refusal.TheVariants as refusals
use Rattle.format.specs.declared.refusal.Report.{Report}
use Rattle.format.specs.Refusals.{bare}
use Rattle.format.specs.Form.{Bytes}
use Rattle.format.specs.Reading.{Prototype}
use Rattle.format.specs.ReadChunk.{Outcome, shown, refusal, read}
use Rattle.show_row.specs.Asked.{Asked, found, refused, or_refuse, function_of}
use Rattle.line_lookup.specs.Lines.{line_of, large, shown_line}
use Rattle.line_batch.specs.Batch.{walked_by, has, walked_by_any, deltas_read, rises, never_falls, refusal_of, answered, over_if, shown_lines, lines_written}
use Rattle.line_batch.proofs.Laws.{distinct, joined}
use Rattle.line_batch.proofs.Laws as laws
use Rattle.line_batch.specs.contracts.list.get_lines_for_pcs as get-lines-for-pcs-contract
use Rattle.line_batch.proofs.list.get_lines_for_pcs as get-lines-for-pcs-call
use Rattle.lafzimdo.specs.Answers.{ofLines}
use Rattle.lafzimdo.specs.contracts.space.lafzimdo_lines as lines-contract
use Rattle.lafzimdo.proofs.space.lafzimdo_lines as lines-call
use Rattle.demands.proofs.Promise.{Promise}
use Rattle.demands.proofs.Refused.{unless, missing, first, no_function, of_function_lem, large_line, anchor_order, pc_order, too_long_lem, for_lines, in_lines}
use Rattle.demands.proofs.Demand1.{after, order}
use Rattle.demands.proofs.Demand2C.{Answered, read_in}
use Rattle.demands.proofs.Accepted.{Accepted, Present}
use Rattle.demands.proofs.ByC.{in_answer, InC, law}

-- ## The calls
pub get_lines_for_pcs : Promise get-lines-for-pcs-contract.ended get-lines-for-pcs-call.Symbol.code get-lines-for-pcs-call.Symbol.name (λ _ chunk limits function pcs lines lines' r.
    (r ≡ shown_lines (length lines.now) pcs.now (function_of function (read limits chunk.now)))
    ∷ (lines'.now ≡ lines_written lines.now pcs.now (function_of function (read limits chunk.now)))
    ∷ [])
get_lines_for_pcs _ = get-lines-for-pcs-call.Met.met

pub lafzimdo_lines : Promise lines-contract.ended lines-call.Symbol.code lines-call.Symbol.name (λ _ chunk limits function pcs lines lines' out out' r.
    Answered r out out' (ofLines (shown_lines (length lines.now) pcs.now (function_of function (read_in limits chunk))))
    ++ (lines'.now ≡ lines_written lines.now pcs.now (function_of function (read_in limits chunk)))
    ∷ [])
lafzimdo_lines _ = lines-call.Met.met

-- ## The answer is Ok
never : {A : Type 0} {q : Report} → some q ≡ none → A
never e = absurd (let z : ◌≡◌ {A = ℕ} 0 1 = cc in omega arith)

module _ (p : Prototype) where
  abbrev the_line : ℕ → ℕ
  the_line pc = line_of (length p.instructions) p.line_defined p.line_info_lem p.abs_line_info pc

  abbrev the_walk : ℕ → List ℕ
  the_walk pc = walked_by (length p.instructions) p.line_defined p.line_info_lem p.abs_line_info pc

  abbrev the_read : List ℕ → ℕ
  the_read pcs = deltas_read (length p.instructions) p.line_defined p.line_info_lem p.abs_line_info pcs

-- the function, and what its answer says
record Answers (old pcs : List ℕ) (a : Asked Prototype) (n : ℕ) : Type 0 where
  function : Prototype
  is : a ≡ found function
  goes : refusal_of function.line_defined function.abs_line_info (length old) pcs ≡ none
  reads : n ≡ the_read function pcs

answers : (old pcs : List ℕ) (a : Asked Prototype) (n : ℕ) → shown_lines (length old) pcs a ≡ Ok n → Answers old pcs a n
answers old pcs (found p) n e = by (refusal_of p.line_defined p.abs_line_info (length old) pcs) refl e
  where
    by : (o : Option Refusal) → refusal_of p.line_defined p.abs_line_info (length old) pcs ≡ o → answered o (the_read p pcs) ≡ Ok n → Answers old pcs (found p) n
    by none o e = record { function = p; is = refl; goes = o; reads = cc }
    by (some q) o e = absurd (let z : ◌≡◌ {A = ℕ} 0 1 = cc in omega arith)
answers old pcs (refused q) n e = absurd (let z : ◌≡◌ {A = ℕ} 0 1 = cc in omega arith)

not-large : (line : ℕ) (anchors : List AbsLineInfo) (space : ℕ) (pcs : List ℕ) → refusal_of line anchors space pcs ≡ none → large line anchors ≡ false
not-large line anchors space pcs e = by (large line anchors) _ refl e
  where
    by : (t : Bool) (more : Option Refusal) → large line anchors ≡ t → cond t (some refusals.LineTooLarge) more ≡ none → large line anchors ≡ false
    by true more t e = absurd (let z : ◌≡◌ {A = ℕ} 0 1 = cc in omega arith)
    by false more t e = t

-- the item of a number at the front of a list
nth_front : (f : ℕ → ℕ) (pcs rest : List ℕ) (i : ℕ) → i < length pcs → get_or (map f pcs ++ rest) i 0 ≡ f (get_or pcs i 0)
nth_front f [] rest i h = absurd (omega arith)
nth_front f (pc ∷ pcs) rest zero h = refl
nth_front f (pc ∷ pcs) rest (suc i) h = nth_front f pcs rest i (omega arith)

module _ (old pcs : List ℕ) (a : Asked Prototype) (n : ℕ) (e : shown_lines (length old) pcs a ≡ Ok n) where
  w : Answers old pcs a n
  w = answers old pcs a n e

  holds : lines_written old pcs a ≡ map (the_line w.function) pcs ++ drop (length (map (the_line w.function) pcs)) old
  holds = ap (lines_written old pcs) w.is ∙ ap (λ o. over_if o (map (the_line w.function) pcs) old) w.goes

  pub each_line : (i : ℕ) → i < length pcs → shown_line (get_or pcs i 0) a ≡ Ok (get_or (lines_written old pcs a) i 0)
  each_line i h =
      let p = w.function in
      ap (shown_line (get_or pcs i 0)) w.is
      ∙ ap (λ t. cond t (Err refusals.LineTooLarge) (Ok (the_line p (get_or pcs i 0)))) (not-large p.line_defined p.abs_line_info (length old) pcs w.goes)
      ∙ sym (ap Ok (ap (λ l. get_or l i 0) holds ∙ nth_front (the_line p) pcs (drop (length (map (the_line p) pcs)) old) i h))

  pub read_most : (p : Prototype) → a ≡ found p → n ≤ length p.line_info_lem
  read_most p is =
      let same : w.function ≡ p = let there = w.is in cc in
      rw (w.reads, same) (laws.read_most (length p.instructions) p.line_defined p.line_info_lem p.abs_line_info pcs)

  pub read_distinct : (p : Prototype) → a ≡ found p → n ≡ length (distinct (joined (the_walk p) pcs))
  read_distinct p is =
      let same : w.function ≡ p = let there = w.is in cc in
      w.reads ∙ ap (λ p. the_read p pcs) same ∙ laws.read_distinct (length p.instructions) p.line_defined p.line_info_lem p.abs_line_info pcs

-- ## What is lent beyond the lines, whatever the answer is
pub behind : (old pcs : List ℕ) (a : Asked Prototype) → drop (length pcs) (lines_written old pcs a) ≡ drop (length pcs) old
behind old pcs (found p) = by (refusal_of p.line_defined p.abs_line_info (length old) pcs)
  where
    by : (o : Option Refusal) → drop (length pcs) (over_if o (map (the_line p) pcs) old) ≡ drop (length pcs) old
    by none = drop_at (map (the_line p) pcs) (drop (length (map (the_line p) pcs)) old) (length pcs) (length-map pcs (the_line p)) ∙ ap (λ n. drop n old) (length-map pcs (the_line p))
    by (some q) = refl
behind old pcs (refused q) = refl

-- ## Which deltas are read
-- of any function: its number of instructions, first line, deltas and anchors
module _ (instructions line_defined : ℕ) (deltas : Bytes) (anchors : List AbsLineInfo) where
  pub not-read : (pcs : List ℕ) (i x : ℕ) → walked_by_any (walked_by instructions line_defined deltas anchors) pcs i ≡ false
      → map (line_of instructions line_defined (set deltas i x) anchors) pcs ≡ map (line_of instructions line_defined deltas anchors) pcs
  not-read pcs i x e = laws.not-read instructions line_defined deltas anchors pcs i x e

  pub walked_matters : (pc i : ℕ) → has (walked_by instructions line_defined deltas anchors pc) i ≡ true
      → let zeros = replicate {A = ℕ} (length deltas) 0 in line_of instructions line_defined (set zeros i 1) anchors pc ≡ line_of instructions line_defined zeros anchors pc + 1
  walked_matters pc i e = laws.walked_matters instructions line_defined anchors pc deltas i e

-- ## The checks
module _ (L : ResourceLimits) (s : Bytes) (f : ℕ) (pcs : List ℕ) where
  pub checks : (space : ℕ) → in_lines (shown_lines space pcs (function_of f (read L s))) ≡ first (for_lines L s f pcs space)
  checks space = go (read L s) ∙ order L s _
    where
      by_tests : (t u v w : Bool) (n : ℕ) → in_lines (answered (cond t (some refusals.LineTooLarge) (cond u (cond v (cond w none (some refusals.LentSpace)) (some refusals.PcOrder)) (some refusals.AnchorOrder))) n)
          ≡ first (cond t (some (bare 25)) none ∷ unless u (bare 29) ∷ unless v (bare 30) ∷ unless w (bare 26) ∷ [])
      by_tests true u v w n = refl
      by_tests false false v w n = refl
      by_tests false true false w n = refl
      by_tests false true true true n = refl
      by_tests false true true false n = refl

      there : (p : Option Prototype) → in_lines (shown_lines space pcs (or_refuse refusals.NoFunction p))
          ≡ first (missing p (bare 23) ∷ of_function_lem p (λ p. cond (large p.line_defined p.abs_line_info) (some (bare 25)) none) ∷ of_function_lem p (λ p. unless (rises p.abs_line_info) (bare 29)) ∷ pc_order pcs ∷ too_long_lem pcs space ∷ [])
      there none = refl
      there (some p) = by_tests (large p.line_defined p.abs_line_info) (rises p.abs_line_info) (never_falls pcs) (leb (length pcs) space) (the_read p pcs)

      go : (o : Outcome) → in_lines (shown_lines space pcs (function_of f o)) ≡ after o (λ r. no_function f r ∷ large_line f r ∷ anchor_order f r ∷ pc_order pcs ∷ too_long_lem pcs space ∷ [])
      go (shown r) = there (get_elem? r.functions f)
      go (refusal q) = refl

  in_c : (a : Result ℕ Refusal) → in_answer (ofLines a) ≡ in_lines a
  in_c (Ok n) = refl
  in_c (Err q) = refl

  pub checks_in_c : (space : ℕ) → InC (ofLines (shown_lines space pcs (function_of f (read L s)))) (for_lines L s f pcs space)
  checks_in_c space = law _ _ (in_c (shown_lines space pcs (function_of f (read L s))) ∙ checks space)

  pub accepted : (old : List ℕ) → first (for_lines L s f pcs (length old)) ≡ none
      → Accepted L s (λ r. Present (get_elem? r.functions f) (λ p. (shown_lines (length old) pcs (function_of f (read L s)) ≡ Ok (the_read p pcs))
      × (lines_written old pcs (function_of f (read L s)) ≡ map (the_line p) pcs ++ drop (length pcs) old)))
  accepted old e = go (read L s) refl (checks (length old) ∙ e)
    where
      by_refusal : (p : Prototype) → function_of f (read L s) ≡ found p → (o : Option Refusal) → refusal_of p.line_defined p.abs_line_info (length old) pcs ≡ o → in_lines (answered o (the_read p pcs)) ≡ none
          → (shown_lines (length old) pcs (function_of f (read L s)) ≡ Ok (the_read p pcs)) × (lines_written old pcs (function_of f (read L s)) ≡ map (the_line p) pcs ++ drop (length pcs) old)
      by_refusal p is none o e = (
        ap (shown_lines (length old) pcs) is ∙ ap (λ o. answered o (the_read p pcs)) o,
        ap (lines_written old pcs) is ∙ ap (λ o. over_if o (map (the_line p) pcs) old) o ∙ ap (λ n. map (the_line p) pcs ++ drop n old) (length-map pcs (the_line p)),
      )
      by_refusal p is (some q) o e = never e

      go : (o : Outcome) → read L s ≡ o → in_lines (shown_lines (length old) pcs (function_of f o)) ≡ none
          → Accepted L s (λ r. Present (get_elem? r.functions f) (λ p. (shown_lines (length old) pcs (function_of f (read L s)) ≡ Ok (the_read p pcs))
          × (lines_written old pcs (function_of f (read L s)) ≡ map (the_line p) pcs ++ drop (length pcs) old)))
      go (refusal q) is e = never e
      go (shown r) is e = record { reading = r; is = is; shows = there (get_elem? r.functions f) refl e }
        where
          there : (p : Option Prototype) → get_elem? r.functions f ≡ p → in_lines (shown_lines (length old) pcs (or_refuse refusals.NoFunction p)) ≡ none
              → Present (get_elem? r.functions f) (λ p. (shown_lines (length old) pcs (function_of f (read L s)) ≡ Ok (the_read p pcs))
              × (lines_written old pcs (function_of f (read L s)) ≡ map (the_line p) pcs ++ drop (length pcs) old))
          there none e h = never h
          there (some p) e h =
              record { value = p; is = e; shows = by_refusal p (ap (function_of f) is ∙ ap (or_refuse refusals.NoFunction) e) (refusal_of p.line_defined p.abs_line_info (length old) pcs) refl h }

-- ## Refusals, and the empty list
pub lines-kept : (old pcs : List ℕ) (a : Asked Prototype) (q : Report) → in_lines (shown_lines (length old) pcs a) ≡ some q → lines_written old pcs a ≡ old
lines-kept old pcs (found p) q e = by (refusal_of p.line_defined p.abs_line_info (length old) pcs) e
  where
    by : (o : Option Refusal) → in_lines (answered o (the_read p pcs)) ≡ some q → over_if o (map (the_line p) pcs) old ≡ old
    by none e = never (sym e)
    by (some r) e = refl
lines-kept old pcs (refused r) q e = refl

pub empty_list : (old : List ℕ) (a : Asked Prototype) → in_lines (shown_lines (length old) [] a) ≡ none → (shown_lines (length old) [] a ≡ Ok 0) × (lines_written old [] a ≡ old)
empty_list old (found p) e = by (refusal_of p.line_defined p.abs_line_info (length old) []) e
  where
    by : (o : Option Refusal) → in_lines (answered o (the_read p [])) ≡ none → (answered o (the_read p []) ≡ Ok 0) × (over_if o [] old ≡ old)
    by none e = (ap Ok (laws.read_none (length p.instructions) p.line_defined p.line_info_lem p.abs_line_info), refl)
    by (some q) e = never e
empty_list old (refused q) e = never e
