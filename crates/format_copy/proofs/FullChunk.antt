-- The full copy of a chunk that belongs to the grammar under some limits (CopyBy.antt). A chunk is bytes: numbers below 256.
--     full_belongs     the full copy belongs under the same limits, if they allow a string of one byte, and it is read as the chunk was, every source name with it, but for format byte, warnings and places
--     full_tidy        it is spelt as a full copy is, however it is read: none of its numbers is padded, no string that shows is spelt as absent, and no nested source is spelt that is the parent's
--     full_keeps       under whichever limits it is read: as the chunk was
--     full_same        and a full copy of the full copy is the full copy
--     equal_full       full copies are equal exactly where readings are, in what is kept of them; under any limits, for each chunk its own
--     full_below       the full copy is bytes
--     archive_of_full  its archive copy is that of the chunk
-- Assumes nothing.
use mathlib.Core.Path.{◌≡◌, sym, ◌∙◌, ap}
use mathlib.Core.Logic.{◌↔◌}
use mathlib.Core.List.{map}
use Prim.Native.Nat.{◌≤◌}
use native.Mathlib.Omega.{arith}
use Rattle.format.specs.declared.limits.ResourceLimits.{ResourceLimits}
use Rattle.format.specs.Form.{Bytes, Below}
use Rattle.format.specs.Reading.{Reading}
use Rattle.format.specs.GrammarChunk.{Chunk}
use Rattle.format.specs.Copy.{upvalues_of_main, copy}
use Rattle.format.specs.FullCopy.{full_functions, full_copy, kept_sourced, kept_full}
use Rattle.format_spelling.specs.Spelling.{spelling_of}
use Rattle.format.proofs.KeptFull.{sourced_kept, upvalues_sourced, full_keeps_more}
use Rattle.format_copy.proofs.Copies.{weaken}
use Rattle.format_copy.proofs.CopyBy.{Written, by_belongs, by_tidy, by_kept, by_keeps, by_same, by_back, by_below}
use Rattle.format_copy.proofs.CopyChunk.{kept-copy}
use Rattle.format_copy.proofs.FullFunctions.{in_full, full_whole}

full : Written in_full full_functions (map kept_sourced)
full = record {
  whole = λ L l left. weaken (λ ps ps' b w. (w.alike, w.joined)) (full_whole L l left);
  same = λ ps qs e. (sym (sourced_kept ps) ∙ ap full_functions e ∙ sourced_kept qs, sym (upvalues_sourced ps) ∙ ap upvalues_of_main e ∙ upvalues_sourced qs);
}

pub full_belongs : (L : ResourceLimits) (s : Bytes) (r : Reading) → Chunk L s r → Below 256 s → 1 ≤ L.max_string_bytes → (q : Reading) × Chunk L (full_copy r) q × (kept_full q ≡ kept_full r)
unfolding full_copy kept_full
full_belongs = by_belongs full

pub full_tidy : (L : ResourceLimits) (s : Bytes) (r : Reading) → Chunk L s r → Below 256 s → 1 ≤ L.max_string_bytes → (q : Reading) (d : Chunk L (full_copy r) q) → ((spelling_of d).padded ≡ 0) × ((spelling_of d).filled ≡ 0) × ((spelling_of d).repeated ≡ 0)
unfolding full_copy
full_tidy L s r c h l q d = let none = by_tidy full L s r c h l q d in (omega (arith, none), omega (arith, none), omega (arith, none))

pub full_keeps : (L M : ResourceLimits) (s : Bytes) (r q : Reading) → Chunk L s r → Below 256 s → Chunk M (full_copy r) q → kept_full q ≡ kept_full r
unfolding full_copy kept_full
full_keeps = by_keeps full

pub full_same : (L M : ResourceLimits) (s : Bytes) (r q : Reading) → Chunk L s r → Below 256 s → Chunk M (full_copy r) q → full_copy q ≡ full_copy r
unfolding full_copy
full_same = by_same full

pub full_kept : (L M : ResourceLimits) (s t : Bytes) (r q : Reading) → Chunk L s r → Chunk M t q → Below 256 s → Below 256 t → full_copy r ≡ full_copy q → kept_full r ≡ kept_full q
unfolding full_copy kept_full
full_kept = by_back full

pub kept_full_lem : (r q : Reading) → kept_full r ≡ kept_full q → full_copy r ≡ full_copy q
unfolding full_copy kept_full
kept_full_lem = by_kept full

pub equal_full : (L M : ResourceLimits) (s t : Bytes) (r q : Reading) → Chunk L s r → Chunk M t q → Below 256 s → Below 256 t → full_copy r ≡ full_copy q ↔ kept_full r ≡ kept_full q
equal_full L M s t r q c d h k = (full_kept L M s t r q c d h k, kept_full_lem r q)

pub full_below : (L : ResourceLimits) (s : Bytes) (r : Reading) → Chunk L s r → Below 256 s → Below 256 (full_copy r)
unfolding full_copy
full_below = by_below full

pub archive_of_full : (L M : ResourceLimits) (s : Bytes) (r q : Reading) → Chunk L s r → Below 256 s → Chunk M (full_copy r) q → copy q ≡ copy r
archive_of_full L M s r q c h d = kept-copy q r (full_keeps_more q r (full_keeps L M s r q c h d))
