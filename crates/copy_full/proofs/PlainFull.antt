-- A chunk of which the full copy spells no place otherwise, in the code's terms: behind its first 32 bytes it is that copy (crates/format_copy/proofs/FullPlain.antt), so it is answered and written as a plain chunk's archive copy is (crates/copy/proofs/PlainChunks.antt).
--     full_answer      the chunk's length is the length of its full copy
--     full_short       so there is no room where less is lent
--     full_whole       where there is room, its front anew and its rest as it is are its full copy
-- Assumes nothing.
use Rattle.std.specs.Prelude.{Ok, Err}
use mathlib.Core.Path.{◌≡◌, ◌∙◌, ap}
use mathlib.Core.Bool.{true}
use mathlib.Core.List.{◌++◌}
use Prim.Native.Nat.{ℕ, ◌≤◌, ◌<◌}
use borrow.Author.Tests.{eqb-true}
use lib.Dec.{eqb}
use lib.ListN.{length, drop}
use Rattle.format.specs.declared.limits.ResourceLimits.{ResourceLimits}
use Rattle.format.specs.declared.refusal.Refusal.TheVariants.{LentSpace}
use Rattle.format.specs.declared.spelling.Spelling.{Spelling}
use Rattle.format.specs.Form.{Bytes, Below}
use Rattle.format.specs.Reading.{Reading}
use Rattle.format.specs.GrammarChunk.{Chunk}
use Rattle.format.specs.ReadChunk.{shown, read}
use Rattle.format.specs.Copy.{field_bytes, header_bytes, upvalues_of_main}
use Rattle.format.specs.FullCopy.{full_copy}
use Rattle.format_spelling.specs.Spelling.{respelt_full, spelling_of}
use Rattle.format_spelling.specs.ReadSpelling.{spelling}
use Rattle.format_copy.proofs.FullPlain.{plain_full}
use Rattle.read_chunk.specs.declared.summary.Summary.{Summary}
use Rattle.read_chunk.specs.Inner.Decoded.{spelt_result}
use Rattle.copy_put.specs.Inner.Put.{Put}
use Rattle.copy.proofs.PlainChunks.{by_plain_answer, by_plain_short, by_plain_whole}
use Rattle.copy_full.specs.InFull.{shown_full_length, shown_full, full_written}

module _ (s : Bytes) (L : ResourceLimits) (bytes : Below 256 s) (y : Summary) (k : Spelling) (e : Ok (y, k) ≡ spelt_result (spelling L s) (read L s)) (plain : eqb (respelt_full k) 0 ≡ true) where
  so : (x : Reading) (c : Chunk L s x) → spelling_of c ≡ k → full_copy x ≡ header_bytes 0 ++ (field_bytes 1 (upvalues_of_main x.functions) ++ drop 32 s)
  so x c is = plain_full c bytes (ap respelt_full is ∙ eqb-true (respelt_full k) 0 plain)

  pub full_answer : Ok (length s) ≡ shown_full_length (read L s)
  full_answer = by_plain_answer full_copy s L y k e so

  module _ (old : Bytes) where
    pub full_short : length old < length s → (Err LentSpace ≡ shown_full (length old) (read L s)) × (old ≡ full_written old (read L s))
    full_short = by_plain_short full_copy s L y k e so old

    pub full_whole : length s ≤ length old → (u : ℕ) → ((x : Reading) → read L s ≡ shown x → u ≡ upvalues_of_main x.functions) → {new : Bytes} {len : ℕ} → Put (header_bytes 0 ++ (field_bytes 1 u ++ drop 32 s)) 0 old len new
        → (Ok (length s) ≡ shown_full (length old) (read L s)) × (new ≡ full_written old (read L s))
    full_whole = by_plain_whole full_copy s L y k e so old
