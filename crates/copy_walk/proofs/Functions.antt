-- A function copied, in the code's terms: by what the calls showed and put (read_walk's `OneFunction.antt` says what they show).
--     its_head, first  the head that was read, and where the first function stands that nests in it
--     end-shows, whole-put     behind the end of a function: what is shown, and what was put
-- Assumes nothing.
use Rattle.std.specs.Prelude.{Result, Ok, Err}
use mathlib.Core.Path.{◌≡◌, refl, sym, subst, ◌∙◌, ap}
use mathlib.Core.Bool.{Bool}
use mathlib.Core.List.{List, ◌∷◌, ◌++◌}
use Prim.Native.Nat.{ℕ, ◌+◌, ◌≤◌}
use lib.ListN.{drop}
use Rattle.format.specs.declared.limits.ResourceLimits.{ResourceLimits}
use Rattle.format.specs.declared.refusal.Refusal.{Refusal}
use Rattle.format.specs.Form.{Bytes}
use Rattle.format.specs.Reading.{Prototype}
use Rattle.format.specs.GrammarChunk.{Where}
use Rattle.format.specs.Read.{Read, ok, refused, next}
use Rattle.format.specs.ReadChunk.{forest, function}
use Rattle.format.specs.Copy.{upvalues_of_main}
use Rattle.format.proofs.Exact.{never}
use Rattle.slice.specs.declared.cursor.Cursor.{Cursor}
use Rattle.read_prototype.specs.Parts.{Head, head, Tail, tail}
use Rattle.read_prototype.specs.Inner.Whole.{prototype_of, inside}
use Rattle.read_prototype.specs.PartsShown.{head_of, head_result}
use Rattle.read_walk.specs.declared.walk.Skimmed.{Skimmed}
use Rattle.read_walk.specs.Inner.Skim.{entered, skim_result}
use Rattle.read_walk.proofs.HeadTail.{ReadOn, head_err, head_read, in_total}
use Rattle.read_walk.proofs.OneFunction as one
use Rattle.read_walk.proofs.OneFunction.{Skims}
use Rattle.copy_put.specs.Inner.Put.{Put}
use Rattle.copy_put.proofs.Writes.{put_then}
use Rattle.copy_parts.specs.Inner.Parts.{head_bytes, tail_bytes}
use Rattle.copy_parts.specs.Inner.Ends.{PutsTail, end_shown}
use Rattle.copy_parts.specs.declared.parts.Counts.{Counts}
use Rattle.copy_parts.specs.Inner.Heads.{counts_of, head_counted, PutsHead}
use Rattle.copy_parts.proofs.HeadPut.{CountsWere, counts_were, counts_stops}
use Rattle.copy_walk.specs.Inner.Walk.{PutsFunction}
use Rattle.copy_parts.proofs.PutParts.{put_as}

-- the instructions so far are within their limit
pub counted_total : (s : Bytes) (L : ResourceLimits) (before at : ℕ) (h : Counts) (c : Cursor) → Ok (h, c) ≡ head_counted (head_result (head L before at (drop at s))) → before + h.instructions ≤ L.max_total_instructions
counted_total s L before at h c e =
    let were = counts_were (head_result (head L before at (drop at s))) h c e in
    subst (λ (h : Counts). before + h.instructions ≤ L.max_total_instructions) (sym were.counted) (in_total s L before at were.value c were.is)

module _ (s : Bytes) (L : ResourceLimits) (left : ℕ) (w : Where) (at : ℕ) {before : ℕ} (so_far : before ≡ w.instructions) where
  as_begins : head L w.instructions at (drop at s) ≡ head L before at (drop at s)
  as_begins = ap (λ n. head L n at (drop at s)) (sym so_far)

  pub head-refused : (q : Refusal) → Err q ≡ head_counted (head_result (head L before at (drop at s))) → Err q ≡ skim_result w (function L left w at (drop at s))
  head-refused q e = one.head-refused s L left w at q (as_begins ∙ head_err _ q (counts_stops (head_result (head L before at (drop at s))) q e))

  module _ (h : Counts) (c₁ : Cursor) (e₁ : Ok (h, c₁) ≡ head_counted (head_result (head L before at (drop at s)))) where
    pub were : CountsWere (head_result (head L before at (drop at s))) h c₁
    were = counts_were (head_result (head L before at (drop at s))) h c₁ e₁

    pub headed : ReadOn head_of (head L before) s at were.value c₁.at
    headed = head_read s L before at were.value c₁ were.is

    abbrev pub its_head : Head
    its_head = headed.value

    head-on : head L w.instructions at (drop at s) ≡ ok its_head c₁.at (drop c₁.at s)
    head-on = as_begins ∙ headed.is

    kept : h ≡ counts_of (head_of its_head)
    kept = were.counted ∙ ap counts_of headed.shows

    many : h.protos ≡ its_head.protos.count
    many = ap (λ (h : Counts). h.protos) kept

    abbrev pub first : Where
    first = inside w its_head

    pub first_instructions : before + h.instructions ≡ first.instructions
    first_instructions = λ i. so_far i + (kept i).instructions

    pub nested_refused : (q : Refusal) → Err q ≡ skim_result first (forest h.protos (entered L left) first c₁.at (drop c₁.at s)) → Err q ≡ skim_result w (function L left w at (drop at s))
    nested_refused = one.nested_refused s L left w at c₁ head-on h.protos many

    module _ (k : Skimmed) (nested : Skims (forest h.protos (entered L left)) s first c₁.at k) where
      abbrev ends : Read Tail
      ends = tail L.max_string_bytes k.next.at (drop k.next.at s)

      pub end-shows : (r : Result Skimmed Refusal) → r ≡ end_shown k ends → r ≡ skim_result w (function L left w at (drop at s))
      end-shows r e = e ∙ by ends refl
        where
          by : (o : Read Tail) → ends ≡ o → end_shown k o ≡ skim_result w (function L left w at (drop at s))
          by (ok t to rest) f = one.function-shown s L left w at c₁ head-on h.protos many k nested f
          by (refused q) f = one.tail-refused s L left w at c₁ head-on h.protos many k nested q f

      -- by the bytes of the nested functions, and how those of the function are made of its parts and of them
      pub whole-put : (bytes : List Prototype → Bytes) (named : Bool) (inner : Bytes) → ((t : Tail) (end : ℕ) → bytes (prototype_of w at its_head t end ∷ nested.value) ≡ head_bytes named its_head ++ (inner ++ tail_bytes t))
          → {l l₁ l₂ l₃ : Bytes} {upvalues n₁ n₂ n₃ : ℕ} → upvalues ≡ h.upvalues
          → PutsHead named (head L before at (drop at s)) l n₁ l₁
          → Put inner n₁ l₁ n₂ l₂
          → PutsTail ends n₂ l₂ n₃ l₃
          → PutsFunction bytes (function L left w at (drop at s)) l upvalues n₃ l₃
      whole-put bytes named inner made {l} {l₁} {l₂} {l₃} {upvalues} {n₁} {n₂} {n₃} u p q r = record {
        counts = λ ps to rest e. count ps to rest ends (sym in_order ∙ e);
        put = λ ps to rest e. by ps to rest ends refl (sym in_order ∙ e);
      }
        where
          in_order : function L left w at (drop at s) ≡ next ends (λ t e f. ok (prototype_of w at its_head t e ∷ nested.value) e f)
          in_order = one.to_tail s L left w at c₁ head-on h.protos many k nested

          count : (ps : List Prototype) (to : ℕ) (rest : Bytes) (o : Read Tail) → next o (λ t e f. ok (prototype_of w at its_head t e ∷ nested.value) e f) ≡ ok ps to rest → upvalues ≡ upvalues_of_main ps
          count ps to rest (refused x) e = absurd (never e)
          count ps to rest (ok t up rest') e =
              let all : prototype_of w at its_head t up ∷ nested.value ≡ ps = cc in
              u ∙ ap (λ (h : Counts). h.upvalues) kept ∙ ap upvalues_of_main all

          by : (ps : List Prototype) (to : ℕ) (rest : Bytes) (o : Read Tail) → ends ≡ o → next o (λ t e f. ok (prototype_of w at its_head t e ∷ nested.value) e f) ≡ ok ps to rest → Put (bytes ps) 0 l n₃ l₃
          by ps to rest (refused x) f e = absurd (never e)
          by ps to rest (ok t up rest') f e =
              let all : prototype_of w at its_head t up ∷ nested.value ≡ ps = cc in
              subst (λ ps. Put (bytes ps) 0 l n₃ l₃) all
              (put_as (sym (made t up))
              (put_then (p.put its_head c₁.at _ headed.is)
              (put_then q (r.put t up rest' f))))
