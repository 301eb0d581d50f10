-- REQUEST 1 (02, item 1): how many of a chunk's numbers are padded. Each sentence of it once, about what the calls show.
--     number_told          "Reading a number now also tells whether it was in its shortest form": `read_varint_lua54` says that it is not padded exactly where it is its shortest spelling
--     unpadded_shortest    and so does the grammar's count (crates/format_spelling/specs/Spelling.antt), which names no reader
--     padded-shown         "the summary shows how many of the chunk's numbers were padded, string sizes included": what `chunk_summary` shows is the grammar's count, to which "every list carries" that of its items
--     padded_in_c          and so is the last number behind C
--     padded-one           however the bytes are a chunk, it is one number
--     padded_few           and no more than the file has bytes
--     apart                "The count is no part of the reading": two chunks have one reading, and 1 and 2 padded numbers. (Demands 1 to 3 are as they were: Alike.antt sets the count aside.)
--                          "and copies do not change": `copy` (crates/format/specs/Copy.antt) takes a reading, of which the count is no part, and the copying call's promise (Demand2.antt) is as it was
--     copy_unpadded        "A copy shows 0 padded numbers wherever the premises given for copies hold"
--     written_unpadded     and so does what the copying call writes
-- What holds after a call of `chunk_summary` is `Summarised` (Together.antt); the promises of the calls are Demand2.antt and Demand2C.antt.
-- Assumes nothing.
use Rattle.slice.specs.declared.cursor.Cursor.{Cursor}
use Rattle.std.specs.Prelude.{Result, Ok}
use Rattle.format.specs.declared.refusal.Refusal.{Refusal}
use Rattle.show_chunk.specs.declared.summary.ChunkSummary.{ChunkSummary}
use mathlib.Core.Path.{◌≡◌, refl, sym, ◌∙◌, ap}
use mathlib.Core.Logic.{◌↔◌}
use mathlib.Core.Bool.{Bool, true, false, cond}
use mathlib.Core.List.{List, [], ◌∷◌, ◌++◌}
use mathlib.Core.Option.{some}
use Prim.Native.Nat.{ℕ, ◌+◌, ◌≤◌}
use native.Mathlib.Omega.{arith}
use borrow.Author.Tests.{ltb-false, le-ltb}
use lib.Dec.{ltb}
use lib.ListN.{length, get_elem?}
use Rattle.format.specs.declared.limits.ResourceLimits.{ResourceLimits}
use Rattle.format.specs.Form.{Bytes, Below}
use Rattle.format.specs.GrammarFields.{Number}
use Rattle.format.specs.Limits.{ceilings}
use Rattle.format.specs.Reading.{Reading}
use Rattle.format.specs.GrammarChunk.{Chunk}
use Rattle.format.specs.ReadFields as field
use Rattle.format.specs.ReadChunk.{body, function, read}
use Rattle.format.specs.Shortest.{shortest}
use Rattle.format.specs.Copy.{header_bytes, copy}
use Rattle.format.proofs.ExactFields.{exact_number}
use Rattle.format.proofs.ShortestLaws.{shortest_least}
use Rattle.format.proofs.ReadChunkLaws.{read_complete}
use Rattle.format_spelling.specs.Spelling.{padded_in}
use Rattle.format_spelling.specs.Spelling as tally
use Rattle.format_spelling.specs.ReadSpelling.{is_padded, spelling}
use Rattle.format_spelling.specs.ReadSpelling as count
use Rattle.format_spelling.proofs.PaddedFirst.{padded_first, shortest_only}
use Rattle.format_spelling.proofs.SpellingLaws.{spelling-is, spelling_unique}
use Rattle.format_spelling.proofs.Few.{spelling_few}
use Rattle.format_copy.proofs.CopyChunk.{copy_tidy}
use Rattle.slice.specs.Shown.{cursor_at}
use Rattle.read_field.specs.Shown.{number_result}
use Rattle.read_chunk.specs.Decoded.{summary_of}
use Rattle.show_chunk.specs.Summaries.{shown_summary}
use Rattle.c_boundary.specs.Status.{limits_of, written}
use Rattle.lafzimdo.specs.Answers.{ofSummary}
use Rattle.demands.proofs.Together.{Summarised}
use Rattle.demands.proofs.Written.{Writes, written-is-copy}
use Rattle.demands.proofs.Demand3.{Belongs, shown-is_the_reading, copy-is-read, written_belongs}

-- ## Numbers
-- 1 where a test holds, else 0
abbrev one_if : Bool → ℕ
one_if b = cond b 1 0

same_test : (a b : Bool) → one_if a ≡ one_if b → a ≡ b
same_test true true e = refl
same_test true false e = absurd (omega (arith, e))
same_test false true e = absurd (omega (arith, e))
same_test false false e = refl

module _ (at v : ℕ) (bytes : Bytes) (below : Below 256 bytes) (d : Number at bytes v) where
  -- no longer than the shortest spelling: so it is the shortest
  not_longer : ltb (length (shortest v)) (length bytes) ≡ false ↔ bytes ≡ shortest v
  not_longer = (
    λ e. shortest_only at v bytes below d (omega (arith, shortest_least at v bytes d, ltb-false (length (shortest v)) (length bytes) e)),
    λ e. le-ltb (length (shortest v)) (length bytes) (omega (arith, ap length e)),
  )

  pub unpadded_shortest : ((tally.number).of at bytes v d).padded ≡ 0 ↔ bytes ≡ shortest v
  unfolding tally.number
  unpadded_shortest = (λ e. not_longer.0 (same_test (ltb (length (shortest v)) (length bytes)) false e), λ e. ap one_if (not_longer.1 e))

  -- whatever stands behind it
  module _ (rest : Bytes) where
    told : is_padded (bytes ++ rest) ≡ ltb (length (shortest v)) (length bytes)
    told = same_test (is_padded (bytes ++ rest)) (ltb (length (shortest v)) (length bytes)) (padded_first at bytes v rest d)

    reads : number_result (is_padded (bytes ++ rest)) (field.number at (bytes ++ rest)) ≡ Ok (v, (cursor_at (at + length bytes)), (ltb (length (shortest v)) (length bytes)))
    reads = ap (number_result (is_padded (bytes ++ rest))) (exact_number.complete rest d) ∙ ap (λ p. Ok (v, cursor_at (at + length bytes), p)) told

    pub number_told : number_result (is_padded (bytes ++ rest)) (field.number at (bytes ++ rest)) ≡ Ok (v, (cursor_at (at + length bytes)), false) ↔ bytes ≡ shortest v
    number_told = (
      λ e.
          let both = sym reads ∙ e in
          let all : ◌≡◌ {A = ℕ × Cursor × Bool} (v, cursor_at (at + length bytes), ltb (length (shortest v)) (length bytes)) (v, cursor_at (at + length bytes), false) = cc in
          not_longer.0 (ap (λ t. t.2) all),
      λ e. reads ∙ ap (λ p. Ok (v, cursor_at (at + length bytes), p)) (not_longer.1 e),
    )

-- ## Chunks
shown-padded : (L : ResourceLimits) (chunk : Bytes) (b : Belongs L chunk) → shown_summary (spelling L chunk) (read L chunk) ≡ Ok (record { summary = summary_of b.reading; padded_numbers = padded_in b.is })
shown-padded L chunk b = (shown-is_the_reading L chunk b).summary ∙ ap (λ k. Ok (record { summary = summary_of b.reading; padded_numbers = k.padded })) (spelling-is b.is)

pub padded-shown : (L : ResourceLimits) (chunk : Bytes) (x : Result ChunkSummary Refusal) → Summarised L chunk x → (b : Belongs L chunk) → x ≡ Ok (record { summary = summary_of b.reading; padded_numbers = padded_in b.is })
padded-shown L chunk x call b = call.answers ∙ shown-padded L chunk b

-- limits are an array of nine numbers
pub padded_in_c : (limits : List ℕ) (chunk : Bytes) (old : List ℕ) (b : Belongs (limits_of limits) chunk)
    → get_elem? (written (ofSummary (shown_summary (spelling (limits_of limits) chunk) (read (limits_of limits) chunk))) old) 14 ≡ some (padded_in b.is)
padded_in_c limits chunk old b = ap (λ x. get_elem? (written (ofSummary x) old) 14) (shown-padded (limits_of limits) chunk b)

pub padded-one : (L : ResourceLimits) (chunk : Bytes) (r q : Reading) (c : Chunk L chunk r) (d : Chunk L chunk q) → padded_in c ≡ padded_in d
padded-one L chunk r q c d = ap (λ k. k.padded) (spelling_unique c d)

pub padded_few : (L : ResourceLimits) (chunk : Bytes) (b : Belongs L chunk) → padded_in b.is ≤ length chunk
padded_few L chunk b = (spelling_few b.is).padded

-- ## No part of the reading
-- 01's 46 bytes with two more: the first line 0 as 00 00 80, and the last as 80; or each as 00 80
abbrev with_lines : Bytes → Bytes
with_lines lines = header_bytes 0 ++ (0 ∷ 0x80 ∷ []) ++ lines ++ (0 ∷ 0 ∷ 2 ∷ 0x80 ∷ 0x80 ∷ 0x80 ∷ 0x80 ∷ 0x80 ∷ 0x80 ∷ 0x80 ∷ 0x80 ∷ [])

abbrev once : Bytes
once = with_lines (0 ∷ 0 ∷ 0x80 ∷ 0x80 ∷ [])

abbrev twice : Bytes
twice = with_lines (0 ∷ 0x80 ∷ 0 ∷ 0x80 ∷ [])

pub apart : (read ceilings once ≡ read ceilings twice) × ((spelling ceilings once).padded ≡ 1) × ((spelling ceilings twice).padded ≡ 2)
unfolding read body function spelling count.body count.function
apart = (refl, refl, refl)

-- ## Copies
-- what the summary shows of bytes that are read, none of whose numbers is padded
pub record ShowsNone (L : ResourceLimits) (bytes : Bytes) : Type 0 where
  pub reading : Reading
  pub shows : shown_summary (spelling L bytes) (read L bytes) ≡ Ok (record { summary = summary_of reading; padded_numbers = 0 })

-- the premises are demand 3's: a string limit of at least 1, and the copy within the input limit
pub copy_unpadded : (L : ResourceLimits) (chunk : Bytes) (b : Belongs L chunk) → Below 256 chunk → 1 ≤ L.max_string_bytes → length (copy b.reading) ≤ L.max_input_bytes → ShowsNone L (copy b.reading)
copy_unpadded L chunk b below string input =
    let again = (copy-is-read L chunk b below string input).belongs in
    let none : padded_in again.is ≡ 0 = ap (λ k. k.padded) (copy_tidy L chunk b.reading b.is below string again.reading again.is) in
    record { reading = again.reading; shows = shown-padded L (copy b.reading) again ∙ ap (λ n. Ok (record { summary = summary_of again.reading; padded_numbers = n })) none }

pub written_unpadded : (L : ResourceLimits) (chunk old written : Bytes) → Writes L chunk old written → 1 ≤ L.max_string_bytes → length written ≤ L.max_input_bytes → ShowsNone L written
written_unpadded L chunk old written w string input =
    let b = written_belongs L chunk old written w in
    let is : written ≡ copy b.reading = written-is-copy L chunk old written b.reading w (read_complete L chunk b.reading b.ceilings b.input b.is) in
    rw is (copy_unpadded L chunk b w.call.below string (rw (← is) input))
