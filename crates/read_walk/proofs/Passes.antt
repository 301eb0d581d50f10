-- One function and those that nest in it, by what `pass_head`, a walk over the nested ones and `pass_tail` showed.
--     head-refused, nested_refused, tail-refused, function-shown       what a walk shows at each end
--     its_head, first, nested, its_tail, function-read                 what was read
-- Assumes nothing.
use Rattle.std.specs.Prelude.{Ok, Err}
use mathlib.Core.Path.{◌≡◌, sym, ◌∙◌, ap}
use mathlib.Core.List.{List, ◌∷◌}
use Prim.Native.Nat.{ℕ, ◌+◌}
use lib.ListN.{drop}
use Rattle.format.specs.declared.limits.ResourceLimits.{ResourceLimits}
use Rattle.format.specs.declared.refusal.Refusal.{Refusal}
use Rattle.format.specs.Form.{Bytes}
use Rattle.format.specs.Reading.{Prototype}
use Rattle.format.specs.GrammarChunk.{Where}
use Rattle.format.specs.Read.{Read, ok}
use Rattle.format.specs.ReadChunk.{forest, function}
use Rattle.format.proofs.ExactChunk.{exact_forest}
use Rattle.slice.specs.declared.cursor.Cursor.{Cursor}
use Rattle.read_prototype.specs.declared.pass.HeadCounts.{HeadCounts}
use Rattle.read_prototype.specs.declared.pass.TailCounts.{TailCounts}
use Rattle.read_prototype.specs.Parts as parts
use Rattle.read_prototype.specs.Inner.Whole.{prototype_of, inside}
use Rattle.read_prototype.specs.Inner.Counts.{head_counts, tail_counts, head_counts_result, tail_counts_result}
use Rattle.read_prototype.proofs.Counts.{head-not, tail-not}
use Rattle.read_walk.specs.declared.walk.Skimmed.{Skimmed}
use Rattle.read_walk.specs.Inner.Skim.{entered, skim_result}
use Rattle.read_walk.proofs.Entering.{exact_entered}
use Rattle.read_walk.proofs.HeadTail.{ReadOn, counts-read, tail-counts-read}
use Rattle.read_walk.proofs.OneFunction as one
use Rattle.read_walk.proofs.OneFunction.{Skims, skim_read}

module _ (s : Bytes) (L : ResourceLimits) (left : ℕ) (w : Where) (at : ℕ) {before : ℕ} (so_far : before ≡ w.instructions) where
  abbrev pub begins : Read parts.Head
  begins = parts.head L before at (drop at s)

  as_begins : parts.head L w.instructions at (drop at s) ≡ begins
  as_begins = ap (λ n. parts.head L n at (drop at s)) (sym so_far)

  pub head-refused : (q : Refusal) → Err q ≡ head_counts_result begins → Err q ≡ skim_result w (function L left w at (drop at s))
  head-refused q e = one.head-refused s L left w at q (as_begins ∙ head-not begins q e)

  module _ (n : HeadCounts) (c₁ : Cursor) (e₁ : Ok (n, c₁) ≡ head_counts_result begins) where
    pub headed : ReadOn head_counts (parts.head L before) s at n c₁.at
    headed = counts-read s L before at n c₁ e₁

    abbrev pub its_head : parts.Head
    its_head = headed.value

    pub head-counts : n ≡ head_counts its_head
    head-counts = headed.shows

    pub head-on : parts.head L w.instructions at (drop at s) ≡ ok its_head c₁.at (drop c₁.at s)
    head-on = as_begins ∙ headed.is

    pub many : n.protos ≡ its_head.protos.count
    many = ap (λ n. n.protos) head-counts

    -- where the first function stands that nests in it
    abbrev pub first : Where
    first = inside w its_head

    pub first_instructions : before + n.instructions ≡ first.instructions
    first_instructions = λ i. so_far i + (head-counts i).instructions

    abbrev pub inner : Read (List Prototype)
    inner = forest n.protos (entered L left) first c₁.at (drop c₁.at s)

    pub nested_refused : (q : Refusal) → Err q ≡ skim_result first inner → Err q ≡ skim_result w (function L left w at (drop at s))
    nested_refused = one.nested_refused s L left w at c₁ head-on n.protos many

    module _ (k : Skimmed) (e₂ : Ok k ≡ skim_result first inner) where
      abbrev pub nested : Skims (forest n.protos (entered L left)) s first c₁.at k
      nested = skim_read (λ v. exact_forest n.protos v (exact_entered L left)) s first c₁.at k e₂

      abbrev pub ends : Read parts.Tail
      ends = parts.tail L.max_string_bytes k.next.at (drop k.next.at s)

      pub tail-refused : (q : Refusal) → Err q ≡ tail_counts_result ends → Err q ≡ skim_result w (function L left w at (drop at s))
      tail-refused q e = one.tail-refused s L left w at c₁ head-on n.protos many k nested q (tail-not ends q e)

      module _ (t : TailCounts) (c₃ : Cursor) (e₃ : Ok (t, c₃) ≡ tail_counts_result ends) where
        pub tailed : ReadOn tail_counts (parts.tail L.max_string_bytes) s k.next.at t c₃.at
        tailed = tail-counts-read s L.max_string_bytes k.next.at t c₃ e₃

        abbrev pub its_tail : parts.Tail
        its_tail = tailed.value

        pub tail-counted : t ≡ tail_counts its_tail
        tail-counted = tailed.shows

        pub function-read : function L left w at (drop at s) ≡ ok (prototype_of w at its_head its_tail c₃.at ∷ nested.value) c₃.at (drop c₃.at s)
        function-read = one.function-read s L left w at c₁ head-on n.protos many k nested tailed.is

        pub function-shown : Ok (record { next = c₃; number = k.number; instructions = k.instructions }) ≡ skim_result w (function L left w at (drop at s))
        function-shown = one.function-shown s L left w at c₁ head-on n.protos many k nested tailed.is
