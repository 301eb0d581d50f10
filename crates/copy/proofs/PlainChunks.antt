-- A chunk of which no place is spelt otherwise, in the code's terms: by what judging it showed.
--     plain_put        the front and the rest, put one behind the other
--     by-plain-..      of a copy, archive or full, that is the chunk with another front
--     plain_answer     the chunk's length is the length of its copy
--     plain_short      so there is no room where less is lent
--     plain_whole      where there is room, its front anew and its rest as it is are its copy
-- Assumes nothing.
use Rattle.std.specs.Prelude.{Ok, Err}
use mathlib.Core.Path.{◌≡◌, sym, subst, ◌∙◌, ap}
use mathlib.Core.Bool.{true}
use mathlib.Core.List.{◌++◌, append_assoc}
use Prim.Native.Nat.{ℕ, ◌-◌, ◌≤◌, ◌<◌}
use native.Mathlib.Nat.{zero-add}
use native.Mathlib.Omega.{arith}
use borrow.Author.Tests.{eqb-true}
use lib.Dec.{eqb}
use lib.ListN.{length, take, drop, length-drop}
use lib.Seq.{take_all}
use Rattle.format.specs.declared.limits.ResourceLimits.{ResourceLimits}
use Rattle.format.specs.declared.refusal.Refusal.TheVariants.{LentSpace}
use Rattle.format.specs.declared.spelling.Spelling.{Spelling}
use Rattle.format.specs.Form.{Bytes, Below}
use Rattle.format.specs.Reading.{Reading}
use Rattle.format.specs.GrammarChunk.{Chunk}
use Rattle.format.specs.ReadChunk.{shown, read}
use Rattle.format.specs.Copy.{field_bytes, header_bytes, upvalues_of_main, copy}
use Rattle.format.proofs.ReadChunkLaws.{read_sound, read-within}
use Rattle.format_spelling.specs.Spelling.{respelt, spelling_of}
use Rattle.format_spelling.specs.ReadSpelling.{spelling}
use Rattle.format_spelling.proofs.SpellingLaws.{spelling-is}
use Rattle.format_copy.proofs.PlainCopy.{front_length, plain_copy}
use Rattle.slice.specs.Inner.Splice.{splice}
use Rattle.read_chunk.specs.declared.summary.Summary.{Summary}
use Rattle.read_chunk.specs.Inner.Decoded.{spelt_result}
use Rattle.read_chunk.proofs.Spelt.{WasSpelt, was_spelt}
use Rattle.read_chunk.proofs.Summaries.{input_ceiling}
use Rattle.copy_put.specs.Inner.Put.{Put}
use Rattle.copy_put.proofs.Writes.{put_then}
use Rattle.copy_parts.proofs.PutParts.{put_as}
use Rattle.copy.specs.Copied.{length_by, shown_by, written_by, shown_length, shown_copy, copy_written}
use Rattle.copy.specs.Inner.Answers.{CopiesBy}
use Rattle.copy.proofs.Outcomes.{by_short, by_whole}

-- the front, and behind it the rest
pub plain_put : (s : Bytes) (u n : ℕ) → n ≡ length (drop 32 s) → {l l₁ l' : Bytes} {m len : ℕ} → Put (header_bytes 0 ++ field_bytes 1 u) 0 l m l₁ → (n ≤ length s - 32 → Put (take n (drop 32 s)) m l₁ len l')
    → Put (header_bytes 0 ++ (field_bytes 1 u ++ drop 32 s)) 0 l len l'
plain_put s u n size p q =
    let there = length-drop 32 s in
    put_as (append_assoc (header_bytes 0) (field_bytes 1 u) (drop 32 s)) (put_then p (put_as (take_all n (drop 32 s) (omega (arith, size))) (q (omega (arith, size, there)))))

-- a copy of the chunk's reading, archive or full, that is the chunk with another front
module _ (copied : Reading → Bytes) (s : Bytes) (L : ResourceLimits) (y : Summary) (k : Spelling) (e : Ok (y, k) ≡ spelt_result (spelling L s) (read L s))
    (plain : (x : Reading) (c : Chunk L s x) → spelling_of c ≡ k → copied x ≡ header_bytes 0 ++ (field_bytes 1 (upvalues_of_main x.functions) ++ drop 32 s)) where
  was : WasSpelt (spelling L s) (read L s) y k
  was = was_spelt (spelling L s) (read L s) y k e

  abbrev reading : Reading
  reading = was.value

  chunk : Chunk L s reading
  chunk = read_sound L s reading was.is

  is_so : copied reading ≡ header_bytes 0 ++ (field_bytes 1 (upvalues_of_main reading.functions) ++ drop 32 s)
  is_so = plain reading chunk (sym (spelling-is chunk) ∙ sym was.spelt)

  size : length (copied reading) ≡ length s
  size = ap length is_so ∙ front_length chunk (upvalues_of_main reading.functions)

  pub by_plain_answer : Ok (length s) ≡ length_by copied (read L s)
  by_plain_answer = rw was.is (ap Ok (sym size))

  put_so : (u : ℕ) → ((x : Reading) → read L s ≡ shown x → u ≡ upvalues_of_main x.functions) → {l l' : Bytes} {len : ℕ} → Put (header_bytes 0 ++ (field_bytes 1 u ++ drop 32 s)) 0 l len l' → CopiesBy copied (read L s) l (Ok (length s)) l'
  put_so u counted {l} {l'} {len} put =
      let within = read-within L s reading was.is in
      let small = input_ceiling L within.0 in
      let is : header_bytes 0 ++ (field_bytes 1 u ++ drop 32 s) ≡ copied reading = ap (λ n. header_bytes 0 ++ (field_bytes 1 n ++ drop 32 s)) (counted reading was.is) ∙ sym is_so in
      let all : Put (copied reading) 0 l len l' = put_as is put in
      let long = size in
      record {
        is = by_plain_answer;
        wrote = λ x f fits.
            let same : reading ≡ x = (let both = sym was.is ∙ f in cc) in
            subst (λ x. length (copied x) ≤ length l → l' ≡ splice 0 (copied x) l) same (λ fits. all.wrote (rw zero-add (omega (arith, small, within.1, long))) (rw zero-add fits)) fits;
      }

  module _ (old : Bytes) where
    pub by_plain_short : length old < length s → (Err LentSpace ≡ shown_by copied (length old) (read L s)) × (old ≡ written_by copied old (read L s))
    by_plain_short = by_short copied old (read L s) (length s) by_plain_answer

    pub by_plain_whole : length s ≤ length old → (u : ℕ) → ((x : Reading) → read L s ≡ shown x → u ≡ upvalues_of_main x.functions) → {new : Bytes} {len : ℕ} → Put (header_bytes 0 ++ (field_bytes 1 u ++ drop 32 s)) 0 old len new
        → (Ok (length s) ≡ shown_by copied (length old) (read L s)) × (new ≡ written_by copied old (read L s))
    by_plain_whole room u counted put = by_whole copied old (read L s) (length s) by_plain_answer room (put_so u counted put)

-- ## The archive copy
module _ (s : Bytes) (L : ResourceLimits) (bytes : Below 256 s) (y : Summary) (k : Spelling) (e : Ok (y, k) ≡ spelt_result (spelling L s) (read L s)) (plain : eqb (respelt k) 0 ≡ true) where
  so : (x : Reading) (c : Chunk L s x) → spelling_of c ≡ k → copy x ≡ header_bytes 0 ++ (field_bytes 1 (upvalues_of_main x.functions) ++ drop 32 s)
  so x c is = plain_copy c bytes (ap respelt is ∙ eqb-true (respelt k) 0 plain)

  pub plain_answer : Ok (length s) ≡ shown_length (read L s)
  plain_answer = by_plain_answer copy s L y k e so

  module _ (old : Bytes) where
    pub plain_short : length old < length s → (Err LentSpace ≡ shown_copy (length old) (read L s)) × (old ≡ copy_written old (read L s))
    plain_short = by_plain_short copy s L y k e so old

    pub plain_whole : length s ≤ length old → (u : ℕ) → ((x : Reading) → read L s ≡ shown x → u ≡ upvalues_of_main x.functions) → {new : Bytes} {len : ℕ} → Put (header_bytes 0 ++ (field_bytes 1 u ++ drop 32 s)) 0 old len new
        → (Ok (length s) ≡ shown_copy (length old) (read L s)) × (new ≡ copy_written old (read L s))
    plain_whole = by_plain_whole copy s L y k e so old
