-- The archive copy of a chunk that belongs to the grammar under some limits. A chunk is bytes: numbers below 256.
--     copy_belongs     the copy belongs under the same limits, if they allow a string of one byte, and in what is kept it is read as the chunk was
--     copy_keeps       under whichever limits the copy is read: in what is kept it is read as the chunk was
--     copy-same        and a copy of the copy is the copy
--     copy-kept        equal copies are of readings that are equal in what is kept
--     equal_copies     so copies are equal exactly where readings are, in what is kept; under any limits, for each chunk its own
--     copy-below       the copy is bytes
--     copy_tidy        it is spelt as a copy is, however it is read
-- Proved for the full copy too, in CopyBy.antt. That a chunk has one reading, by which these go, is `chunk-unique` of crates/format/proofs/ReadChunkLaws.antt.
-- Assumes nothing.
use mathlib.Core.Path.{◌≡◌, refl, sym, ◌∙◌, ap}
use mathlib.Core.Logic.{◌↔◌}
use Prim.Native.Nat.{◌+◌, ◌≤◌}
use native.Mathlib.Omega.{arith}
use Rattle.format.specs.declared.limits.ResourceLimits.{ResourceLimits}
use Rattle.format.specs.declared.spelling.Spelling.{Spelling}
use Rattle.format.specs.Form.{Bytes, Below}
use Rattle.format.specs.Reading.{Reading}
use Rattle.format.specs.GrammarChunk.{Chunk}
use Rattle.format.specs.Copy.{functions_bytes, upvalues_of_main, copy, kept_functions, kept}
use Rattle.format_spelling.specs.Spelling.{same, respelt, spelling_of}
use Rattle.format.proofs.KeptCopy.{functions-kept, upvalues-kept}
use Rattle.format_spelling.proofs.Sums.{spelling_path}
use Rattle.format_copy.proofs.Copies.{Measure, weaken}
use Rattle.format_copy.proofs.CopyFunctions.{function-whole}
use Rattle.format_copy.proofs.CopyBy.{Written, by_belongs, by_tidy, by_kept, by_keeps, by_same, by_back, by_below}

-- every place that is spelt otherwise is counted, in either copy
abbrev everywhere : Measure
everywhere = record { of = λ a. respelt a + a.repeated; nothing = refl; adds = λ a b h k. omega (arith, h, k) }

archive : Written everywhere functions_bytes kept_functions
archive = record {
  whole = λ L l left. weaken (λ ps ps' b w. (w.alike, w.joined)) (function-whole L l left);
  same = λ ps qs e. (sym (functions-kept ps) ∙ ap functions_bytes e ∙ functions-kept qs, sym (upvalues-kept ps) ∙ ap upvalues_of_main e ∙ upvalues-kept qs);
}

pub copy_belongs : (L : ResourceLimits) (s : Bytes) (r : Reading) → Chunk L s r → Below 256 s → 1 ≤ L.max_string_bytes → (q : Reading) × Chunk L (copy r) q × (kept q ≡ kept r)
unfolding copy kept
copy_belongs = by_belongs archive

none-respelt : (a : Spelling) → respelt a + a.repeated ≡ 0 → a ≡ same
none-respelt a e = spelling_path a same (omega arith) (omega arith) (omega arith) (omega arith)

pub copy_tidy : (L : ResourceLimits) (s : Bytes) (r : Reading) → Chunk L s r → Below 256 s → 1 ≤ L.max_string_bytes → (q : Reading) (d : Chunk L (copy r) q) → spelling_of d ≡ same
unfolding copy
copy_tidy L s r c h l q d = none-respelt (spelling_of d) (by_tidy archive L s r c h l q d)

pub copy_keeps : (L M : ResourceLimits) (s : Bytes) (r q : Reading) → Chunk L s r → Below 256 s → Chunk M (copy r) q → kept q ≡ kept r
unfolding copy kept
copy_keeps = by_keeps archive

pub copy-same : (L M : ResourceLimits) (s : Bytes) (r q : Reading) → Chunk L s r → Below 256 s → Chunk M (copy r) q → copy q ≡ copy r
unfolding copy
copy-same = by_same archive

pub copy-kept : (L M : ResourceLimits) (s t : Bytes) (r q : Reading) → Chunk L s r → Chunk M t q → Below 256 s → Below 256 t → copy r ≡ copy q → kept r ≡ kept q
unfolding copy kept
copy-kept = by_back archive

pub kept-copy : (r q : Reading) → kept r ≡ kept q → copy r ≡ copy q
unfolding copy kept
kept-copy = by_kept archive

pub equal_copies : (L M : ResourceLimits) (s t : Bytes) (r q : Reading) → Chunk L s r → Chunk M t q → Below 256 s → Below 256 t → copy r ≡ copy q ↔ kept r ≡ kept q
equal_copies L M s t r q c d h k = (copy-kept L M s t r q c d h k, kept-copy r q)

pub copy-below : (L : ResourceLimits) (s : Bytes) (r : Reading) → Chunk L s r → Below 256 s → Below 256 (copy r)
unfolding copy
copy-below = by_below archive
