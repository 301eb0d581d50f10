-- Demand 1 of the calls behind C that read a part at a place: 21, 22, then what the part's reader refuses; else 0, and the answer. One law (ByC.antt, `law`), and a line for each call.
-- (The reader begins at the place: bytes before it are not looked at. Behind the file's end there are none, so that is 1, or 2. What their readers refuse is in byte order: PartsInOrder.antt.)
-- Assumes nothing.
use mathlib.Core.Path.{◌≡◌, refl, ◌∙◌}
use mathlib.Core.Bool.{Bool, true, false, cond}
use mathlib.Core.List.{List, [], ◌∷◌}
use mathlib.Core.Option.{Option}
use Prim.Native.Nat.{ℕ}
use lib.Dec.{leb}
use lib.ListN.{length, drop}
use Rattle.format.specs.declared.limits.ResourceLimits.{ResourceLimits}
use Rattle.format.specs.declared.refusal.Refusal.TheVariants.{LimitAboveCeiling, InputBytes}
use Rattle.format.specs.declared.refusal.Report.{Report}
use Rattle.format.specs.declared.entry.UpvalueDesc.{UpvalueDesc}
use Rattle.format.specs.declared.entry.AbsLineInfo.{AbsLineInfo}
use Rattle.format.specs.Refusals.{bare}
use Rattle.format.specs.Form.{Bytes}
use Rattle.format.specs.Limits.{within_ceilings}
use Rattle.format.specs.GrammarFields.{LuaString}
use Rattle.format.specs.Reading.{ConstantValue}
use Rattle.format.specs.Read.{Read, ok, refused, Reader}
use Rattle.format.specs.ReadFields as fields
use Rattle.format.specs.ReadChunk as chunk
use Rattle.read_field.specs.Shown.{shown, string_result}
use Rattle.read_entry.specs.Readers.{RawLocal, raw_local}
use Rattle.read_entry.specs.Shown.{constant_result, anchor_result, local_result}
use Rattle.read_nth.specs.Shown.{upvalue_result}
use Rattle.read_prototype.specs.Parts as parts
use Rattle.read_prototype.specs.PartsShown.{head_result, tail_result}
use Rattle.c_boundary.specs.Status.{limits_of, Answer, refuses}
use Rattle.c_parts.specs.PartNumbers.{of_head, of_tail}
use Rattle.c_entries_at.specs.EntryNumbers.{of_word_at, of_constant_at, of_upvalue_at, of_delta_at, of_anchor_at, of_local_at, of_string_at}
use Rattle.c_parts.specs.PartNumbers.{head_at, tail_at}
use Rattle.c_entries_at.specs.EntryNumbers.{word_at, constant_at, upvalue_at, delta_at, anchor_at, local_at, string_at}
use Rattle.demands.proofs.Refused.{alone, unless, first, by_reader}
use Rattle.demands.proofs.ByC.{in_answer, InC, law}

-- the reader of a part, at the place
abbrev pub for_part : {A : Type 0} → List ℕ → ℕ → Bytes → Reader A → List (Option Report)
for_part limits place s r =
    unless (within_ceilings (limits_of limits)) (bare 21)
    ∷ unless (leb (length s) (limits_of limits).max_input_bytes) (bare 22)
    ∷ by_reader (r place (drop place s))
    ∷ []

module _ (limits : List ℕ) (place : ℕ) (s : Bytes) where
  abbrev L : ResourceLimits
  L = limits_of limits

  module _ {A : Type 0} (r : Reader A) (answer : Read A → Answer) (same : (o : Read A) → in_answer (answer o) ≡ by_reader o) where
    part : InC (cond (within_ceilings L) (cond (leb (length s) L.max_input_bytes) (answer (r place (drop place s))) (refuses InputBytes)) (refuses LimitAboveCeiling)) (for_part limits place s r)
    part = law _ _ (by (within_ceilings L) (leb (length s) L.max_input_bytes) (r place (drop place s)))
      where
        by : (within short : Bool) (o : Read A) → in_answer (cond within (cond short (answer o) (refuses InputBytes)) (refuses LimitAboveCeiling)) ≡ first (unless within (bare 21) ∷ unless short (bare 22) ∷ by_reader o ∷ [])
        by true true o = same o ∙ alone (by_reader o)
        by true false o = refl
        by false short o = refl

  pub lafzimdo_head-at : InC (head_at limits place s) (for_part limits place s (parts.head L 0))
  lafzimdo_head-at = part (parts.head L 0) (λ o. of_head (head_result o)) of-head
    where
      of-head : (o : Read parts.Head) → in_answer (of_head (head_result o)) ≡ by_reader o
      of-head (ok x to rest) = refl
      of-head (refused q) = refl

  pub lafzimdo_tail-at : InC (tail_at limits place s) (for_part limits place s (parts.tail L.max_string_bytes))
  lafzimdo_tail-at = part (parts.tail L.max_string_bytes) (λ o. of_tail (tail_result o)) of-tail
    where
      of-tail : (o : Read parts.Tail) → in_answer (of_tail (tail_result o)) ≡ by_reader o
      of-tail (ok x to rest) = refl
      of-tail (refused q) = refl

  pub lafzimdo_word_at : InC (word_at limits place s) (for_part limits place s (fields.field 4))
  lafzimdo_word_at = part (fields.field 4) (λ o. of_word_at (shown o)) of_word
    where
      of_word : (o : Read ℕ) → in_answer (of_word_at (shown o)) ≡ by_reader o
      of_word (ok x to rest) = refl
      of_word (refused q) = refl

  pub lafzimdo_constant-at : InC (constant_at limits place s) (for_part limits place s (chunk.constant L.max_string_bytes))
  lafzimdo_constant-at = part (chunk.constant L.max_string_bytes) (λ o. of_constant_at (constant_result o)) of-constant
    where
      of-constant : (o : Read ConstantValue) → in_answer (of_constant_at (constant_result o)) ≡ by_reader o
      of-constant (ok x to rest) = refl
      of-constant (refused q) = refl

  pub lafzimdo_upvalue-at : InC (upvalue_at limits place s) (for_part limits place s chunk.upvalue)
  lafzimdo_upvalue-at = part chunk.upvalue (λ o. of_upvalue_at (upvalue_result o)) of-upvalue
    where
      of-upvalue : (o : Read UpvalueDesc) → in_answer (of_upvalue_at (upvalue_result o)) ≡ by_reader o
      of-upvalue (ok x to rest) = refl
      of-upvalue (refused q) = refl

  pub lafzimdo_delta_at : InC (delta_at limits place s) (for_part limits place s (fields.field 1))
  lafzimdo_delta_at = part (fields.field 1) (λ o. of_delta_at (shown o)) of_delta
    where
      of_delta : (o : Read ℕ) → in_answer (of_delta_at (shown o)) ≡ by_reader o
      of_delta (ok x to rest) = refl
      of_delta (refused q) = refl

  pub lafzimdo_anchor-at : InC (anchor_at limits place s) (for_part limits place s chunk.anchor)
  lafzimdo_anchor-at = part chunk.anchor (λ o. of_anchor_at (anchor_result o)) of-anchor
    where
      of-anchor : (o : Read AbsLineInfo) → in_answer (of_anchor_at (anchor_result o)) ≡ by_reader o
      of-anchor (ok x to rest) = refl
      of-anchor (refused q) = refl

  pub lafzimdo_local-at : InC (local_at limits place s) (for_part limits place s (raw_local L.max_string_bytes))
  lafzimdo_local-at = part (raw_local L.max_string_bytes) (λ o. of_local_at (local_result o)) of-local
    where
      of-local : (o : Read RawLocal) → in_answer (of_local_at (local_result o)) ≡ by_reader o
      of-local (ok x to rest) = refl
      of-local (refused q) = refl

  pub lafzimdo_string-at : InC (string_at limits place s) (for_part limits place s (fields.string L.max_string_bytes))
  lafzimdo_string-at = part (fields.string L.max_string_bytes) (λ o. of_string_at (string_result o)) of-string
    where
      of-string : (o : Read (Option LuaString)) → in_answer (of_string_at (string_result o)) ≡ by_reader o
      of-string (ok x to rest) = refl
      of-string (refused q) = refl
