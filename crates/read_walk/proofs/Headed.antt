-- A function whose head has been passed over: what stands behind it, its own source, and those that nest in it, wherever the function stands. For `skim_function`.
-- Assumes nothing.
use Rattle.std.specs.Prelude.{Ok}
use Prim.Native.Nat.{ℕ, ◌<◌, ◌≤◌, ◌^◌, ◌+◌}
use mathlib.Core.Path.{◌≡◌, refl, sym, ◌∙◌, ap}
use mathlib.Core.List.{List}
use mathlib.Core.Option.{Option}
use lib.ListN.{drop}
use Rattle.format.specs.declared.limits.ResourceLimits.{ResourceLimits}
use Rattle.format.specs.Form.{Bytes}
use Rattle.format.specs.GrammarFields.{LuaString}
use Rattle.format.specs.Reading.{Prototype}
use Rattle.format.specs.GrammarChunk.{Where}
use Rattle.format.specs.Read.{Read}
use Rattle.format.specs.declared.spelling.Spelling.{Spelling}
use Rattle.format_spelling.specs.Spelling.{◌⊕◌}
use Rattle.format_spelling.specs.ReadSpelling as count
use Rattle.format_spelling.specs.Inner.Tally.{counts, Fits, Room, Adds}
use Rattle.slice.specs.declared.cursor.Cursor.{Cursor}
use Rattle.read_prototype.specs.declared.pass.HeadCounts.{HeadCounts}
use Rattle.read_prototype.specs.Parts as parts
use Rattle.read_prototype.specs.PartsSpelt as spelt
use Rattle.read_prototype.specs.Inner.Counts.{head_counts_result}
use Rattle.read_walk.specs.declared.walk.Skimmed.{Skimmed}
use Rattle.read_walk.specs.Inner.Skim.{entered, skim_result}
use Rattle.read_walk.specs.Inner.Source.{source_at, repeats_at, unpadded_at, handed}
use Rattle.read_walk.specs.Inner.Spelt.{nested_spelt, own_source}
use Rattle.read_walk.proofs.HeadTail.{counts_total}
use Rattle.read_walk.proofs.Passes as passes
use Rattle.read_walk.proofs.Tally as tally

-- the head of a function at `from`, passed over: what it gave, and what was counted before and behind it
pub record Headed (s : Bytes) (L : ResourceLimits) (from : Skimmed) (t₀ t₁ : List ℕ) (kept : HeadCounts) (behind : Cursor) : Type 0 where
  pub begun : Ok (kept, behind) ≡ head_counts_result (parts.head L from.instructions from.next.at (drop from.next.at s))
  pub room : Room t₀ from.next.at
  pub told : Adds (parts.head L from.instructions from.next.at (drop from.next.at s)) (spelt.head L from.instructions from.next.at (drop from.next.at s)) t₀ t₁

module _ {s : Bytes} {L : ResourceLimits} {from : Skimmed} {t₀ t₁ : List ℕ} {kept : HeadCounts} {behind : Cursor} (h : Headed s L from t₀ t₁ kept behind) (left source : ℕ) where
  -- the source that it may inherit
  abbrev pub outer : Option LuaString
  outer = source_at L.max_string_bytes s source

  -- wherever it stands
  abbrev pub anywhere : Where
  anywhere = record { number = from.number; instructions = from.instructions; depth = 0; parent = 0; source = outer }

  pub own_fits : behind.at < 2 ^ 64 → Fits (counts t₁) (own_source kept.named from.number (repeats_at L.max_string_bytes s from.next.at source))
  own_fits few = tally.own_fits s L left anywhere from.next.at refl kept behind h.begun h.room h.told source refl few

  pub total : from.instructions + kept.instructions ≤ L.max_total_instructions
  total = counts_total s L from.instructions from.next.at kept behind h.begun

  -- where the first of those that nest in it stands
  abbrev pub stand : Skimmed
  stand = record { next = behind; number = from.number + 1; instructions = from.instructions + kept.instructions }

  -- behind its own source
  module _ (t₂ : List ℕ) (own : counts t₂ ≡ counts t₁ ⊕ own_source kept.named from.number (repeats_at L.max_string_bytes s from.next.at source)) where
    pub first_room : Room t₂ behind.at
    first_room = tally.first_room s L left anywhere from.next.at refl kept behind h.begun h.room h.told source refl own

    module _ (w : Where) (n : from.number ≡ w.number) (i : from.instructions ≡ w.instructions) where
      pub owned : counts t₂ ≡ counts t₁ ⊕ own_source kept.named w.number (repeats_at L.max_string_bytes s from.next.at source)
      owned = own ∙ ap (λ m. counts t₁ ⊕ own_source kept.named m (repeats_at L.max_string_bytes s from.next.at source)) n

      abbrev pub first : Where
      first = passes.first s L left w from.next.at i kept behind h.begun

      abbrev pub inside : Read (List Prototype)
      inside = passes.inner s L left w from.next.at i kept behind h.begun

      abbrev pub those : Spelling
      those = count.forest kept.protos (entered L left) (nested_spelt L left) first behind.at (drop behind.at s)

      pub number : from.number + 1 ≡ first.number
      number = ap (λ m. m + 1) n

      pub instructions : from.instructions + kept.instructions ≡ first.instructions
      instructions = passes.first_instructions s L left w from.next.at i kept behind h.begun

      pub inherited : {own_at : ℕ} → own_at ≡ handed kept.named (unpadded_at s from.next.at) source → w.source ≡ outer → first.source ≡ source_at L.max_string_bytes s own_at
      inherited e o =
          tally.inherits s L left w from.next.at i kept behind h.begun h.room h.told source o
          ∙ ap (source_at L.max_string_bytes s) (sym e)

  -- those that nest in it, passed over up to k: what is shown of them, and counted
  pub record Nested (t₂ : List ℕ) (own : counts t₂ ≡ counts t₁ ⊕ own_source kept.named from.number (repeats_at L.max_string_bytes s from.next.at source)) (k : Skimmed) (t₃ : List ℕ) (w : Where) (n : from.number ≡ w.number) (i : from.instructions ≡ w.instructions) : Type 0 where
    pub shown : Ok k ≡ skim_result (first t₂ own w n i) (inside t₂ own w n i)
    pub counted : w.source ≡ outer → Adds (inside t₂ own w n i) (those t₂ own w n i) t₂ t₃
