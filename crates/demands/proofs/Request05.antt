-- REQUEST 5 (02, item 5): nesting as found in use. Each sentence of it once.
--     ceiling              "The ceiling for nesting becomes 14": of the definitions, and so of `ResourceLimits::ceilings` and `within_ceilings`, whose promises (Demand2.antt) name them
--     listed               "and `chunklist` uses 14"
--     above_refused        "A limit of 15 is now refused with number 21": any above 14 is, whatever the chunk and the other limits
--     by_every_call        by every call of Rattle that goes by the reading, and lent memory stays as it was; strict_above, first_in_strict: by the stricter summary, in Rattle and behind C
--     first_in_c           by every call behind C: it is the first of their conditions, and each returns the first that holds (ByC.antt); first_at-places: so of the calls at a place (RefusedAt.antt)
--     still_read           "A chunk nested 14 deep is still read when its limit is 14": what belongs to the grammar under any nesting limit, and has no function deeper than 14, is read under 14, with the same reading
--     none_deeper          and nothing that is read has a function deeper than 14
--     as_before            and nothing else has changed: under a nesting limit of at most 14 the reader is what it was with any higher ceiling, 200 or another
--                          "Equality with the Rust now covers nesting limits up to 14": demand 2 is of limits within their ceilings, and these are they
-- Chains of 13 to 16 and of 200 under limits of 13 to 16 and beyond, with the places of their refusals, are worked cases: crates/format/proofs/NestingCases.antt.
-- Assumes nothing.
use mathlib.Core.Path.{◌≡◌, refl, sym, ◌∙◌, ap}
use mathlib.Core.Bool.{Bool, true, false, cond, ◌&&◌}
use mathlib.Core.List.{List}
use mathlib.Core.Option.{Option, some}
use Prim.Native.Nat.{ℕ, ◌≤◌, ◌<◌}
use borrow.Author.Tests.{le-leb, lt-leb}
use lib.Dec.{leb}
use lib.ListN.{length}
use Rattle.format.specs.declared.limits.ResourceLimits.{ResourceLimits}
use Rattle.format.specs.declared.refusal.Refusal.TheVariants.{LimitAboveCeiling, InputBytes}
use Rattle.format.specs.declared.refusal.Report.{Report}
use Rattle.format.specs.Refusals.{bare}
use Rattle.format.specs.Form.{Bytes}
use Rattle.format.specs.Limits.{ceilings, within_ceilings}
use Rattle.format.specs.Read.{Reader}
use Rattle.format.specs.Reading.{Reading}
use Rattle.format.specs.GrammarChunk.{Chunk}
use Rattle.format.specs.ReadChunk.{Outcome, shown, refusal, outcome, main, read}
use Rattle.format.proofs.ReadChunkLaws.{read_sound, read-within, read_complete}
use Rattle.read_chunk.proofs.Summaries.{in_ceilings}
use Rattle.c_boundary.specs.Status.{limits_of}
use Rattle.chunklist_listing.specs.Listing.{list_limits}
use Rattle.demands.proofs.Calls.{Refuses, refuses}
use Rattle.demands.proofs.Refused.{first, of_chunk}
use Rattle.demands.proofs.RefusedAt.{for_part}
use Rattle.format_strict.specs.ReadStrict.{strict_read}
use Rattle.demands.proofs.StrictOrder.{for_strict}
use Rattle.demands.proofs.Depths.{with_nesting, Shallow, never_deeper, shallow_belongs}

-- ## The ceiling
pub ceiling : ceilings.max_nesting_depth ≡ 14
ceiling = refl

pub listed : list_limits.max_nesting_depth ≡ 14
listed = refl

-- ## The test of 21, that of nesting apart
and_true : (x : Bool) → (x && true) ≡ x
and_true true = refl
and_true false = refl

and_false : (x : Bool) → (x && false) ≡ false
and_false true = refl
and_false false = refl

apart : (a b c d e f g h i : Bool) → (a && b && c && d && e && f && g && h && i) ≡ (a && true && c && d && e && f && g && h && i && b)
apart true true c d e f g h i = sym (and_true (c && d && e && f && g && h && i))
apart true false c d e f g h i = sym (and_false (c && d && e && f && g && h && i))
apart false b c d e f g h i = refl

-- the other eight limits are within their ceilings, and nesting is at most d
abbrev pub within_up_to : ℕ → ResourceLimits → Bool
within_up_to d L = within_ceilings (with_nesting 0 L) && leb L.max_nesting_depth d

-- the reader with the ceiling d for nesting
abbrev pub read_up_to : ℕ → ResourceLimits → Bytes → Outcome
read_up_to d L chunk = cond (within_up_to d L) (cond (leb (length chunk) L.max_input_bytes) (outcome L (main L 0 chunk)) (refusal InputBytes)) (refusal LimitAboveCeiling)

module _ (L : ResourceLimits) where
  within-is : within_ceilings L ≡ within_up_to 14 L
  within-is = apart (leb L.max_input_bytes _) (leb L.max_nesting_depth 14) _ _ _ _ _ _ _

  outside : 14 < L.max_nesting_depth → within_ceilings L ≡ false
  outside h = within-is ∙ rw (lt-leb L.max_nesting_depth 14 h) (and_false (within_ceilings (with_nesting 0 L)))

  module _ (chunk : Bytes) where
    -- with 14 it is the reader
    pub with_fourteen : read_up_to 14 L chunk ≡ read L chunk
    unfolding read
    with_fourteen = ap (λ b. cond b (cond (leb (length chunk) L.max_input_bytes) (outcome L (main L 0 chunk)) (refusal InputBytes)) (refusal LimitAboveCeiling)) (sym within-is)

    pub as_before : (d : ℕ) → L.max_nesting_depth ≤ d → L.max_nesting_depth ≤ 14 → read_up_to d L chunk ≡ read L chunk
    as_before d h k =
        let same : within_up_to d L ≡ within_up_to 14 L = rw (le-leb L.max_nesting_depth d h, le-leb L.max_nesting_depth 14 k) in
        ap (λ b. cond b (cond (leb (length chunk) L.max_input_bytes) (outcome L (main L 0 chunk)) (refusal InputBytes)) (refusal LimitAboveCeiling)) same ∙ with_fourteen

    -- ## Above it
    pub above_refused : 14 < L.max_nesting_depth → read L chunk ≡ refusal LimitAboveCeiling
    unfolding read
    above_refused h = rw (outside h)

    pub by_every_call : 14 < L.max_nesting_depth → Refuses L chunk LimitAboveCeiling
    by_every_call h = refuses L chunk LimitAboveCeiling (above_refused h)

    -- and by the stricter reading
    pub strict_above : 14 < L.max_nesting_depth → strict_read L chunk ≡ refusal LimitAboveCeiling
    unfolding strict_read
    strict_above h = rw (outside h)

pub first_in_strict : (limits : List ℕ) (chunk : Bytes) → 14 < (limits_of limits).max_nesting_depth → first (for_strict (limits_of limits) chunk) ≡ some (bare 21)
first_in_strict limits chunk h = rw (outside (limits_of limits) h)

-- limits are an array of nine numbers
pub first_in_c : (limits : List ℕ) (chunk : Bytes) → 14 < (limits_of limits).max_nesting_depth → (later : List (Option Report)) → first (of_chunk (limits_of limits) chunk later) ≡ some (bare 21)
first_in_c limits chunk h later = rw (outside (limits_of limits) h)

pub first_at-places : {A : Type 0} (limits : List ℕ) (place : ℕ) (chunk : Bytes) (r : Reader A) → 14 < (limits_of limits).max_nesting_depth → first (for_part limits place chunk r) ≡ some (bare 21)
first_at-places limits place chunk r h = rw (outside (limits_of limits) h)

-- ## Up to it
pub still_read : (L : ResourceLimits) (chunk : Bytes) (r : Reading) → Chunk L chunk r → Shallow 14 r.functions → within_ceilings (with_nesting 14 L) ≡ true → length chunk ≤ L.max_input_bytes
    → read (with_nesting 14 L) chunk ≡ shown r
still_read L chunk r c shallow within short = read_complete (with_nesting 14 L) chunk r within short (shallow_belongs L 14 chunk r c shallow)

pub none_deeper : (L : ResourceLimits) (chunk : Bytes) (r : Reading) → read L chunk ≡ shown r → Shallow 14 r.functions
none_deeper L chunk r e = never_deeper L 14 chunk r (read_sound L chunk r e) (in_ceilings L (read-within L chunk r e).0).0
