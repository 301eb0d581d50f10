-- One function and those that nest in it, by what was read of its parts. (`Passes.antt`: by what `pass_head` and `pass_tail` showed.)
--     skim_err, skim_read      of what a walk showed: what was read
--     head_stops .. shown_by_lem   by what was read, whatever the readers of its two parts are
--     head-refused ..          of the ordinary reading
-- Assumes nothing.
use Rattle.std.specs.Prelude.{Ok, Err}
use mathlib.Core.Path.{◌≡◌, refl, sym, ◌∙◌, ap}
use mathlib.Core.List.{List, ◌∷◌}
use Prim.Native.Nat.{ℕ, ◌+◌}
use native.Mathlib.Omega.{arith}
use lib.ListN.{length, drop}
use Rattle.format.specs.declared.limits.ResourceLimits.{ResourceLimits}
use Rattle.format.specs.declared.refusal.Refusal.{Refusal}
use Rattle.format.specs.Form.{Bytes, Form}
use Rattle.format.specs.Reading.{Prototype}
use Rattle.format.specs.GrammarChunk.{Where, instructions_of}
use Rattle.format.specs.Read.{Read, ok, refused, Reader, next, ◌>>=◌}
use Rattle.format.specs.ReadChunk.{forest, function}
use Rattle.format.proofs.Exact.{Exact}
use Rattle.format.proofs.Left.{left}
use Rattle.slice.specs.declared.cursor.Cursor.{Cursor}
use Rattle.slice.specs.Shown.{cursor_at}
use Rattle.read_prototype.specs.Parts as parts
use Rattle.read_prototype.specs.Inner.Whole as whole
use Rattle.read_prototype.specs.Inner.Whole.{prototype_of, inside}
use Rattle.read_prototype.proofs.On.{taken, stopped}
use Rattle.read_prototype.proofs.Flat.{in_parts}
use Rattle.read_walk.specs.declared.walk.Skimmed.{Skimmed}
use Rattle.read_walk.specs.Inner.Skim.{entered, skimmed_of, skim_result}
use Rattle.read_walk.proofs.Entering.{function-body}
use Rattle.read_walk.proofs.HeadTail.{ReadOn}

-- ## What a walk showed
pub skim_err : (w : Where) (o : Read (List Prototype)) (q : Refusal) → Err q ≡ skim_result w o → o ≡ refused q
skim_err w (ok ps to rest) q e = absurd (let z : ◌≡◌ {A = ℕ} 0 1 = cc in omega arith)
skim_err w (refused p) q e = cc

-- functions that were read from w on, behind which a walk stands at k
abbrev pub Skims : (Where → Reader (List Prototype)) → Bytes → Where → ℕ → Skimmed → Type 0
Skims r s w at k = ReadOn (λ ps. skimmed_of w ps k.next.at) (r w) s at k k.next.at

pub skim_read : {r : Where → Reader (List Prototype)} {F : Where → Form (List Prototype)} → ((w : Where) → Exact (r w) (F w)) → (s : Bytes) (w : Where) (at : ℕ) (k : Skimmed) → Ok k ≡ skim_result w (r w at (drop at s)) → Skims r s w at k
skim_read {r} exact s w at k e = by (r w at (drop at s)) refl e
  where
    by : (o : Read (List Prototype)) → r w at (drop at s) ≡ o → Ok k ≡ skim_result w o → Skims r s w at k
    by (refused q) is e = absurd (let z : ◌≡◌ {A = ℕ} 0 1 = cc in omega arith)
    by (ok ps to rest) is e =
        let all : k ≡ skimmed_of w ps to = cc in
        let behind : k.next.at ≡ to = ap (λ k. k.next.at) all in
        record {
          value = ps;
          is = is ∙ ap (λ rest. ok ps to rest) (left (exact w) s at is) ∙ ap (λ to. ok ps to (drop to s)) (sym behind);
          shows = all ∙ ap (skimmed_of w ps) (sym behind);
        }

-- ## A function of its parts, whatever reads them: `o` is what is read of it
module _ (s : Bytes) (r : Where → Reader (List Prototype)) (before : Reader parts.Head) (behind : Reader parts.Tail) (w : Where) (at : ℕ) {o : Read (List Prototype)} (joins : o ≡ whole.joined r before behind w at (drop at s)) where
  pub head_stops : {q : Refusal} → before at (drop at s) ≡ refused q → o ≡ refused q
  head_stops e = joins ∙ stopped _ e

  -- n functions nest in it
  module _ {h : parts.Head} {to : ℕ} (e₁ : before at (drop at s) ≡ ok h to (drop to s)) (n : ℕ) (many : n ≡ h.protos.count) where
    abbrev pub inner_by : Read (List Prototype)
    inner_by = forest n r (inside w h) to (drop to s)

    behind-head : o ≡ next inner_by (λ ps. behind >>= λ t end rest. ok (prototype_of w at h t end ∷ ps) end rest)
    behind-head = joins ∙ taken _ e₁ ∙ ap (λ n. next (forest n r (inside w h) to (drop to s)) (λ ps. behind >>= λ t end rest. ok (prototype_of w at h t end ∷ ps) end rest)) (sym many)

    pub nested_stops : {q : Refusal} → inner_by ≡ refused q → o ≡ refused q
    nested_stops e = behind-head ∙ stopped _ e

    -- a walk over them showed k
    module _ (k : Skimmed) (nested : Skims (forest n r) s (inside w h) to k) where
      abbrev pub tail_by : Read parts.Tail
      tail_by = behind k.next.at (drop k.next.at s)

      pub to_tail_by : o ≡ next tail_by (λ t end rest. ok (prototype_of w at h t end ∷ nested.value) end rest)
      to_tail_by = behind-head ∙ taken _ nested.is

      pub tail_stops : {q : Refusal} → tail_by ≡ refused q → o ≡ refused q
      tail_stops e = to_tail_by ∙ stopped _ e

      module _ {t : parts.Tail} {end : ℕ} {rest : Bytes} (e₃ : tail_by ≡ ok t end rest) where
        pub all_by : o ≡ ok (prototype_of w at h t end ∷ nested.value) end rest
        all_by = to_tail_by ∙ taken _ e₃

        pub shown_by_lem : Ok (record { next = cursor_at end; number = k.number; instructions = k.instructions }) ≡ skim_result w o
        shown_by_lem =
            let ps = nested.value in
            let p = prototype_of w at h t end in
            let number : k.number ≡ w.number + length (p ∷ ps) = ap (λ k. k.number) nested.shows ∙ omega arith in
            let instructions : k.instructions ≡ w.instructions + instructions_of (p ∷ ps) = ap (λ k. k.instructions) nested.shows ∙ omega arith in
            (λ i. Ok (record { next = cursor_at end; number = number i; instructions = instructions i })) ∙ sym (ap (skim_result w) all_by)

-- ## The function of the ordinary reading
module _ (s : Bytes) (L : ResourceLimits) (left : ℕ) (w : Where) (at : ℕ) where
  abbrev pub head_at_lem : Read parts.Head
  head_at_lem = parts.head L w.instructions at (drop at s)

  abbrev pub tail-at : ℕ → Read parts.Tail
  tail-at to = parts.tail L.max_string_bytes to (drop to s)

  abbrev pub function-at : Read (List Prototype)
  function-at = function L left w at (drop at s)

  pub by_parts : function-at ≡ whole.parts L (entered L left) w at (drop at s)
  by_parts = function-body L left w at (drop at s) ∙ in_parts L (entered L left) w at (drop at s)

  pub no_head : {q : Refusal} → head_at_lem ≡ refused q → function-at ≡ refused q
  no_head e = head_stops s (entered L left) (parts.head L w.instructions) (parts.tail L.max_string_bytes) w at by_parts e

  pub head-refused : (q : Refusal) → head_at_lem ≡ refused q → Err q ≡ skim_result w function-at
  head-refused q e = sym (ap (skim_result w) (no_head e))

  -- n functions nest in it, and a walk over them showed what it read
  module _ {h : parts.Head} (c₁ : Cursor) (e₁ : head_at_lem ≡ ok h c₁.at (drop c₁.at s)) (n : ℕ) (many : n ≡ h.protos.count) where
    abbrev pub inner : Read (List Prototype)
    inner = forest n (entered L left) (inside w h) c₁.at (drop c₁.at s)

    pub nested_refused : (q : Refusal) → Err q ≡ skim_result (inside w h) inner → Err q ≡ skim_result w function-at
    nested_refused q e = sym (ap (skim_result w) (nested_stops s (entered L left) (parts.head L w.instructions) (parts.tail L.max_string_bytes) w at by_parts e₁ n many (skim_err (inside w h) inner q e)))

    module _ (k : Skimmed) (nested : Skims (forest n (entered L left)) s (inside w h) c₁.at k) where
      pub to_tail : function-at ≡ next (tail-at k.next.at) (λ t end rest. ok (prototype_of w at h t end ∷ nested.value) end rest)
      to_tail = to_tail_by s (entered L left) (parts.head L w.instructions) (parts.tail L.max_string_bytes) w at by_parts e₁ n many k nested

      pub tail-refused : (q : Refusal) → tail-at k.next.at ≡ refused q → Err q ≡ skim_result w function-at
      tail-refused q e = sym (ap (skim_result w) (tail_stops s (entered L left) (parts.head L w.instructions) (parts.tail L.max_string_bytes) w at by_parts e₁ n many k nested e))

      module _ {t : parts.Tail} {end : ℕ} {rest : Bytes} (e₃ : tail-at k.next.at ≡ ok t end rest) where
        pub function-read : function-at ≡ ok (prototype_of w at h t end ∷ nested.value) end rest
        function-read = all_by s (entered L left) (parts.head L w.instructions) (parts.tail L.max_string_bytes) w at by_parts e₁ n many k nested e₃

        pub function-shown : Ok (record { next = cursor_at end; number = k.number; instructions = k.instructions }) ≡ skim_result w function-at
        function-shown = shown_by_lem s (entered L left) (parts.head L w.instructions) (parts.tail L.max_string_bytes) w at by_parts e₁ n many k nested e₃
