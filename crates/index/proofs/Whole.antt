-- The index of a whole chunk, in the code's terms: by what the first pass showed.
--     index-length         so many numbers for each function
--     refused-index        a refusal of the first pass
--     no_room              the space is too short
--     never_refused        the second pass refuses nothing
--     index-written        it has written the index
-- Assumes nothing.
use Rattle.std.specs.Prelude.{Ok, Err}
use mathlib.Core.Path.{◌≡◌, refl, sym, ◌∙◌, ap}
use mathlib.Core.Bool.{Bool, true, false, cond}
use mathlib.Core.List.{List, [], ◌∷◌, ◌++◌}
use Prim.Native.Nat.{ℕ, ◌+◌, ◌*◌, ◌/◌, ◌≤◌, ◌<◌}
use native.Mathlib.Nat.{zero-add}
use native.Mathlib.Omega.{arith}
use borrow.Author.Tests.{le-leb, lt-leb}
use lib.Dec.{leb}
use lib.ListN.{length, drop, length-append}
use Rattle.format.specs.Limits.{DEEPEST, Walkable}
use Rattle.format.specs.declared.limits.ResourceLimits.{ResourceLimits}
use Rattle.format.specs.declared.refusal.Refusal.{Refusal}
use Rattle.format.specs.declared.refusal.Refusal.TheVariants.{LentSpace}
use Rattle.format.specs.Form.{Bytes}
use Rattle.format.specs.Reading.{Prototype}
use Rattle.format.specs.GrammarChunk.{outermost, Chunk}
use Rattle.format.specs.ReadChunk.{function, main, Outcome, shown, read}
use Rattle.format.proofs.ExactChunk.{exact_main}
use Rattle.format.proofs.ReadChunkLaws.{read_sound, read-within}
use Rattle.read_chunk.specs.declared.summary.Summary.{Summary}
use Rattle.read_chunk.specs.Inner.Decoded.{judged_result}
use Rattle.read_chunk.proofs.Summaries.{in_ceilings, input_ceiling}
use Rattle.read_walk.specs.Inner.Skim.{skim_result}
use Rattle.read_chunk.proofs.MainAt.{was_shown, was_refused, MainAt, main-at}
use Rattle.index.specs.Index.{index, shown_index, index_written}
use Rattle.slice.specs.Inner.Splice.{splice}
use Rattle.index_row.specs.Inner.Stored.{COLUMNS, stored}
use Rattle.index_walk.specs.Inner.Written.{Wrote}
use Rattle.index.proofs.Small.{small-main, stored-index}

pub index-length : (ps : List Prototype) → length (index ps) ≡ COLUMNS * length ps
index-length [] = refl
index-length (p ∷ ps) = let more = index-length ps in omega arith

-- ## By the first pass
pub refused-index : (old : List ℕ) (o : Outcome) (q : Refusal) → Err q ≡ judged_result o → (Err q ≡ shown_index (length old) o) × (old ≡ index_written old o)
refused-index old o q e = let is = was_refused o q e in (sym (ap (shown_index (length old)) is), sym (ap (index_written old) is))

-- a row for each function has room where the space has room for as many rows
short_space : (space n : ℕ) → space / COLUMNS < n → space < COLUMNS * n
short_space space n h = omega arith

long_space : (space n : ℕ) → n ≤ space / COLUMNS → COLUMNS * n ≤ space
long_space space n h = omega arith

module _ (old : List ℕ) (o : Outcome) (d : Summary) (e : Ok d ≡ judged_result o) where
  abbrev functions : List Prototype
  functions = (was_shown o d e).value.functions

  count : d.functions ≡ length functions
  count = ap (λ k. k.functions) (was_shown o d e).shows

  by_test : (b : Bool) → leb (length (index functions)) (length old) ≡ b
      → (shown_index (length old) o ≡ cond b (Ok (length functions)) (Err LentSpace)) × (index_written old o ≡ cond b (index functions ++ drop (length (index functions)) old) old)
  by_test b t = (
    ap (shown_index (length old)) (was_shown o d e).is ∙ ap (λ b. cond b (Ok (length functions)) (Err LentSpace)) t,
    ap (index_written old) (was_shown o d e).is ∙ ap (λ b. cond b (index functions ++ drop (length (index functions)) old) old) t,
  )

  pub no_room : length old / COLUMNS < d.functions → (Err LentSpace ≡ shown_index (length old) o) × (old ≡ index_written old o)
  no_room h =
      let size = index-length functions in
      let number = count in
      let longer : length old < COLUMNS * length functions = short_space (length old) (length functions) (rw (← number) h) in
      let both = by_test false (lt-leb (length (index functions)) (length old) (omega arith)) in
      (sym both.0, sym both.1)

  module _ (h : d.functions ≤ length old / COLUMNS) where
    fits : COLUMNS * length functions ≤ length old
    fits = let number = count in long_space (length old) (length functions) (rw (← number) h)

    room : (new : List ℕ) → new ≡ index functions ++ drop (length (index functions)) old → (Ok d.functions ≡ shown_index (length old) o) × (new ≡ index_written old o)
    room new e =
        let size = index-length functions in
        let enough = fits in
        let both = by_test true (le-leb (length (index functions)) (length old) (omega arith)) in
        (ap Ok count ∙ sym both.0, e ∙ sym both.1)

-- ## The second pass
module _ (old : List ℕ) (L : ResourceLimits) (s : Bytes) (d : Summary) (e : Ok d ≡ judged_result (read L s)) where
  abbrev all-functions : List Prototype
  all-functions = functions old (read L s) d e

  was : read L s ≡ shown (was_shown (read L s) d e).value
  was = (was_shown (read L s) d e).is

  pub in_limits : (L.max_nesting_depth ≤ DEEPEST) × Walkable L
  in_limits = in_ceilings L (read-within L s (was_shown (read L s) d e).value was).0

  chunk : Chunk L s (was_shown (read L s) d e).value
  chunk = read_sound L s (was_shown (read L s) d e).value was

  those : chunk.value.functions ≡ all-functions
  those = ap (λ r. r.functions) chunk.shows

  as_index : stored all-functions ≡ index all-functions
  as_index =
      let short = read-within L s (was_shown (read L s) d e).value was in
      let input = input_ceiling L short.0 in
      let size : length s ≡ length chunk.front + length chunk.trailing = ap length chunk.whole ∙ length-append chunk.front chunk.trailing in
      let within = short.1 in
      let small = small-main L in_limits.1.0 in_limits.0 chunk.front chunk.value (omega arith) chunk.main in
      rw (← those) (stored-index chunk.value.functions small)

  main-place : MainAt L s all-functions
  main-place = rw (← those) (main-at L s (ap (main L 0) chunk.whole ∙ (exact_main L).complete chunk.trailing chunk.main))

  -- what the first pass takes the second takes
  pub never_refused : {A : Type 0} (q : Refusal) → Err q ≡ skim_result outermost (function L L.max_nesting_depth outermost 32 (drop 32 s)) → A
  never_refused q e =
      let same = e ∙ ap (skim_result outermost) main-place.reads in
      absurd (let z : ◌≡◌ {A = ℕ} 0 1 = cc in omega arith)

  module _ (enough : d.functions ≤ length old / COLUMNS) (new : List ℕ) (wrote : Wrote outermost (function L L.max_nesting_depth outermost 32 (drop 32 s)) old new) where
    stands_there : new ≡ index all-functions ++ drop (length (index all-functions)) old
    unfolding splice
    stands_there =
        wrote.wrote all-functions main-place.to main-place.rest main-place.reads (let more = fits old (read L s) d e enough in omega arith)
        ∙ ap (λ xs. xs ++ drop (0 + length xs) old) as_index
        ∙ ap (λ n. index all-functions ++ drop n old) (zero-add (length (index all-functions)))

    pub index-written : (Ok d.functions ≡ shown_index (length old) (read L s)) × (new ≡ index_written old (read L s))
    index-written = room old (read L s) d e enough new stands_there
