-- One function and those that nest in it, by what `pass_head`, a walk over the nested ones and `pass_tail` showed (read_walk's `OneFunction.antt`).
-- Assumes nothing.
use Rattle.std.specs.Prelude.{Ok, Err}
use mathlib.Core.Path.{◌≡◌, sym, ◌∙◌, ap}
use mathlib.Core.List.{List}
use Prim.Native.Nat.{ℕ, ◌+◌}
use lib.ListN.{drop}
use Rattle.format.specs.declared.limits.ResourceLimits.{ResourceLimits}
use Rattle.format.specs.declared.refusal.Refusal.{Refusal}
use Rattle.format.specs.Form.{Bytes}
use Rattle.format.specs.Reading.{Prototype}
use Rattle.format.specs.GrammarChunk.{Where}
use Rattle.format.specs.Read.{Read, ok, Reader}
use Rattle.format.specs.ReadChunk.{forest}
use Rattle.format.proofs.ExactChunk.{exact_forest}
use Rattle.format_strict.specs.ReadStrict.{strict_function}
use Rattle.format_strict.proofs.ExactStrict.{exact_strict_function}
use Rattle.slice.specs.declared.cursor.Cursor.{Cursor}
use Rattle.slice.specs.Inner.Results.{cursor_result}
use Rattle.read_field.proofs.Shows.{cursor_err, cursor_ok}
use Rattle.read_prototype.specs.Parts as parts
use Rattle.read_prototype.specs.Inner.Whole.{inside}
use Rattle.read_walk.specs.declared.walk.Skimmed.{Skimmed}
use Rattle.read_walk.specs.Inner.Skim.{entered_by, skim_result}
use Rattle.read_walk.proofs.Entering.{exact_entered_by}
use Rattle.read_walk.proofs.OneFunction.{skim_err, Skims, skim_read, head_stops, nested_stops, tail_stops, shown_by_lem}
use Rattle.strict_walk.specs.Inner.StrictParts.{strict_head, strict_tail}
use Rattle.strict_walk.specs.Inner.Results.{head_passed}
use Rattle.strict_walk.proofs.HeadAnswers.{head-not, HeadRead, head_ok}
use Rattle.strict_walk.proofs.Flat as flat

module _ (s : Bytes) (L : ResourceLimits) (left : ℕ) (w : Where) (at : ℕ) {before : ℕ} (so_far : before ≡ w.instructions) where
  abbrev nesting : Where → Reader (List Prototype)
  nesting = entered_by (strict_function L) L left

  abbrev pub whole : Read (List Prototype)
  whole = strict_function L left w at (drop at s)

  abbrev pub begins : Read parts.Head
  begins = strict_head L before at (drop at s)

  as_begins : strict_head L w.instructions at (drop at s) ≡ begins
  as_begins = ap (λ n. strict_head L n at (drop at s)) (sym so_far)

  pub head-refused : (q : Refusal) → Err q ≡ head_passed begins → Err q ≡ skim_result w whole
  head-refused q e = sym (ap (skim_result w) (head_stops s nesting (strict_head L w.instructions) (strict_tail L.max_string_bytes) w at (flat.by_parts L left w at (drop at s)) (as_begins ∙ head-not s L before at begins q e)))

  module _ (n p : ℕ) (c₁ : Cursor) (e₁ : Ok (n, p, c₁) ≡ head_passed begins) where
    pub headed : HeadRead s L before at n p c₁
    headed = head_ok s L before at n p c₁ e₁

    head-on : strict_head L w.instructions at (drop at s) ≡ ok headed.value c₁.at (drop c₁.at s)
    head-on = as_begins ∙ headed.is

    -- where the first function stands that nests in it
    abbrev pub first : Where
    first = inside w headed.value

    pub first_instructions : before + n ≡ first.instructions
    first_instructions = λ i. so_far i + headed.instructions i

    abbrev pub inner : Read (List Prototype)
    inner = forest p nesting first c₁.at (drop c₁.at s)

    pub nested_refused : (q : Refusal) → Err q ≡ skim_result first inner → Err q ≡ skim_result w whole
    nested_refused q e =
        sym (ap (skim_result w) (nested_stops s nesting (strict_head L w.instructions) (strict_tail L.max_string_bytes) w at (flat.by_parts L left w at (drop at s)) head-on p headed.protos (skim_err first inner q e)))

    module _ (k : Skimmed) (e₂ : Ok k ≡ skim_result first inner) where
      nested : Skims (forest p nesting) s first c₁.at k
      nested = skim_read (λ v. exact_forest p v (exact_entered_by (exact_strict_function L) L left)) s first c₁.at k e₂

      abbrev pub ends : Read parts.Tail
      ends = strict_tail L.max_string_bytes k.next.at (drop k.next.at s)

      pub tail-refused : (q : Refusal) → Err q ≡ cursor_result ends → Err q ≡ skim_result w whole
      tail-refused q e =
          sym (ap (skim_result w) (tail_stops s nesting (strict_head L w.instructions) (strict_tail L.max_string_bytes) w at (flat.by_parts L left w at (drop at s)) head-on p headed.protos k nested (cursor_err ends q e)))

      pub function-shown : (c₃ : Cursor) → Ok c₃ ≡ cursor_result ends → Ok (record { next = c₃; number = k.number; instructions = k.instructions }) ≡ skim_result w whole
      function-shown c₃ e = shown_by_lem s nesting (strict_head L w.instructions) (strict_tail L.max_string_bytes) w at (flat.by_parts L left w at (drop at s)) head-on p headed.protos k nested (cursor_ok ends c₃ e).was.is
