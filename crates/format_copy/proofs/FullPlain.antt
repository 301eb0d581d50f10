-- A chunk of which the full copy spells no place otherwise is, behind its first 32 bytes, its own full copy: no nested source that is spelt is its parent's, so each is written, and none besides.
--     Repeats m        the sort m counts a nested source that is its parent's: the full copy's does, and so does the archive copy's, which counts every one
--     plain_full       so it is
--     plain_full_length    so it is as long
--     full_plain       and only there, if the limits allow a string of one byte
--     plain_both       where the archive copy spells no place otherwise, the two copies are one
-- Assumes nothing.
use mathlib.Core.Path.{◌≡◌, refl, sym, ◌∙◌, ap}
use mathlib.Core.Logic.{◌↔◌}
use mathlib.Core.Bool.{Bool, true, false, cond}
use mathlib.Core.List.{◌++◌}
use mathlib.Core.Option.{Option, none, some}
use Prim.Native.Nat.{ℕ, zero, suc, ◌≤◌}
use native.Mathlib.Omega.{arith}
use lib.ListN.{length, drop}
use Rattle.format.specs.declared.limits.ResourceLimits.{ResourceLimits}
use Rattle.format.specs.Form.{Bytes, Below}
use Rattle.format.specs.GrammarFields.{LuaString, String}
use Rattle.format.specs.Reading.{Reading}
use Rattle.format.specs.GrammarChunk.{inherit, Where, Function, outermost, Chunk}
use Rattle.format.specs.Copy.{field_bytes, option_bytes, upvalues_of_main, header_bytes, copy}
use Rattle.format.specs.FullCopy.{equal_sources, nested_source, full_functions, full_copy}
use Rattle.format_spelling.specs.Spelling.{dropping, respelt_full, respelt_in, respelt_full_in}
use Rattle.format_spelling.specs.Spelling as tally
use Rattle.format_spelling.specs.ReadSpelling as count
use Rattle.format.proofs.FullSources.{inherited, main-source}
use Rattle.format.proofs.Sources.{inherit-none}
use Rattle.format_copy.proofs.CopyForest.{Once}
use Rattle.format_copy.proofs.FullChunk.{full_belongs, full_tidy}
use Rattle.format_copy.proofs.FullFunctions.{full, Sourced, once, whole}
use Rattle.format_copy.proofs.Own.{Sort, Own, nothing_own, given_own, weaken}
use Rattle.format_copy.proofs.OwnChunk.{string_own, dropped, unspelt, body_own}
use Rattle.format_copy.proofs.PlainCopy.{spelling-behind, plain_by, front_length, plain_copy}

-- ## Sources
-- the full copy drops a nested source that is its parent's
abbrev pub repeated : Sort
repeated = record { of = λ a. a.repeated; nothing = refl; join = λ a b. refl }

abbrev Repeats : Sort → Type 0
Repeats m = (w : Where) → 1 ≤ w.number → (t : LuaString) → m.of (dropping w (some t)) ≡ 0 → equal_sources (some t) w.source ≡ false

not-one : (b : Bool) → ◌≡◌ {A = ℕ} (cond b 1 0) 0 → b ≡ false
not-one true e = absurd (omega (arith, e))
not-one false e = refl

full_repeats : Repeats repeated
full_repeats w nested t e = not-one (equal_sources (some t) w.source) e

archive_repeats : Repeats dropped
archive_repeats w nested t e = absurd (let z : ◌≡◌ {A = ℕ} 0 1 = (let gone : some t ≡ none = unspelt w nested (some t) e in cc) in omega arith)

-- main's is written as it is
main_own : {m : Sort} (limit : ℕ) → Own m (String limit) (tally.source limit outermost) (λ t b. Sourced outermost outermost t t b)
unfolding tally.source tally.besides
main_own {m} limit = record {
  own = λ at b t h d z.
      let sum = m.join ((tally.string limit).of at b t d) (dropping outermost t) in
      record { wrote = (string_own {m = m} limit).own at b t h d (omega (arith, z, sum)) ∙ ap option_bytes (sym (main-source (inherit t none) ∙ inherit-none t)); reads = refl };
}

module _ (m : Sort) (repeats : Repeats m) where
  sourced : (w : Where) → 1 ≤ w.number → (t : Option LuaString) → m.of (dropping w t) ≡ 0 → option_bytes t ≡ option_bytes (nested_source w.source (inherit t w.source))
  sourced w nested none z = rw (inherited w.source)
  sourced w nested (some t) z = rw (repeats w nested t z)

  nested_own : (limit : ℕ) (w : Where) → 1 ≤ w.number → Own m (String limit) (tally.source limit w) (λ t b. Sourced w w t t b)
  unfolding tally.source tally.besides
  nested_own limit w nested = record {
    own = λ at b t h d z.
        let sum = m.join ((tally.string limit).of at b t d) (dropping w t) in
        record { wrote = (string_own {m = m} limit).own at b t h d (omega (arith, z, sum)) ∙ sourced w nested t (omega (arith, z, sum)); reads = refl };
  }

  -- ## Functions
  module _ (L : ResourceLimits) where
    function_own : (left : ℕ) (w : Where) → 1 ≤ w.number → Own m (Function L left w) (tally.function L left w) (λ ps b. Once full w.source ps ps b)
    unfolding Function tally.function
    function_own zero w nested = weaken (λ ps b. once w w ps ps b) (body_own full L w (λ w nested. nothing_own) (nested_own _ w nested))
    function_own (suc left) w nested = weaken (λ ps b. once w w ps ps b) (body_own full L w (λ w nested. given_own (function_own left w nested)) (nested_own _ w nested))

    full_main : (left : ℕ) → Own m (Function L left outermost) (tally.function L left outermost) (λ ps b. b ≡ full_functions ps)
    unfolding Function tally.function
    full_main zero = weaken (λ ps b s. (whole ps ps b (once outermost outermost ps ps b s)).joined) (body_own full L outermost (λ w nested. nothing_own) (main_own _))
    full_main (suc left) = weaken (λ ps b s. (whole ps ps b (once outermost outermost ps ps b s)).joined) (body_own full L outermost (λ w nested. given_own (function_own left w nested)) (main_own _))

-- ## Chunks
module _ {L : ResourceLimits} {chunk : Bytes} {r : Reading} (c : Chunk L chunk r) (h : Below 256 chunk) where
  -- WHERE THE FULL COPY SPELLS NO PLACE OTHERWISE, IT IS THE CHUNK
  pub plain_full : respelt_full_in c ≡ 0 → full_copy r ≡ header_bytes 0 ++ (field_bytes 1 (upvalues_of_main r.functions) ++ drop 32 chunk)
  unfolding full_copy
  plain_full plain = plain_by c h repeated full_functions (full_main repeated full_repeats L L.max_nesting_depth) plain

  -- it is as long
  pub plain_full_length : respelt_full_in c ≡ 0 → length (full_copy r) ≡ length chunk
  plain_full_length plain = ap length (plain_full plain) ∙ front_length c (upvalues_of_main r.functions)

  -- AND ONLY THERE, if the limits allow a string of one byte
  pub full_plain : 1 ≤ L.max_string_bytes → full_copy r ≡ header_bytes 0 ++ (field_bytes 1 (upvalues_of_main r.functions) ++ drop 32 chunk) → respelt_full_in c ≡ 0
  full_plain l e =
      let (q, d, _) = full_belongs L chunk r c h l in
      let (numbers, strings, sources) = full_tidy L chunk r c h l q d in
      ap respelt_full (spelling-behind c ∙ ap (count.function L L.max_nesting_depth outermost 32) (sym (ap (drop 32) e)) ∙ sym (spelling-behind d)) ∙ omega (arith, numbers, strings, sources)

  pub plain_full_exactly : 1 ≤ L.max_string_bytes → respelt_full_in c ≡ 0 ↔ full_copy r ≡ header_bytes 0 ++ (field_bytes 1 (upvalues_of_main r.functions) ++ drop 32 chunk)
  plain_full_exactly l = (plain_full, full_plain l)

  -- WHERE THE ARCHIVE COPY SPELLS NO PLACE OTHERWISE, THE TWO ARE ONE
  pub plain_both : respelt_in c ≡ 0 → full_copy r ≡ copy r
  unfolding full_copy
  plain_both plain = plain_by c h dropped full_functions (full_main dropped archive_repeats L L.max_nesting_depth) plain ∙ sym (plain_copy c h plain)
