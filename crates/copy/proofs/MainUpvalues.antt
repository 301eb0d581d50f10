-- Main's upvalues, by what `pass_head` showed at byte 32.
--     main-counted     where a chunk is read, they are as many as were counted there
--     main-refused     and what stands there is not refused
-- Assumes nothing.
use Rattle.std.specs.Prelude.{Ok, Err}
use mathlib.Core.Path.{◌≡◌, refl, sym, ◌∙◌, ap}
use mathlib.Core.List.{List, ◌∷◌}
use Prim.Native.Nat.{ℕ}
use native.Mathlib.Omega.{arith}
use lib.ListN.{length, drop}
use Rattle.format.specs.declared.limits.ResourceLimits.{ResourceLimits}
use Rattle.format.specs.declared.refusal.Refusal.{Refusal}
use Rattle.format.specs.Form.{Bytes}
use Rattle.format.specs.Reading.{Prototype, Reading}
use Rattle.format.specs.GrammarChunk.{outermost}
use Rattle.format.specs.Read.{Read, ok, refused, Reader, next, give}
use Rattle.format.specs.ReadChunk.{forest, main, shown, read}
use Rattle.format.specs.Copy.{upvalues_of_main}
use Rattle.format.proofs.Exact.{never}
use Rattle.format.proofs.ExactChunk.{exact_main}
use Rattle.format.proofs.ReadChunkLaws.{read_sound}
use Rattle.slice.specs.declared.cursor.Cursor.{Cursor}
use Rattle.read_prototype.specs.declared.pass.HeadCounts.{HeadCounts}
use Rattle.read_prototype.specs.Parts.{Head, head, Tail, tail}
use Rattle.read_prototype.specs.Inner.Counts.{head_counts_result}
use Rattle.read_prototype.specs.Inner.Whole.{prototype_of, inside}
use Rattle.read_prototype.proofs.On.{taken}
use Rattle.read_walk.specs.Inner.Skim.{entered}
use Rattle.read_walk.proofs.HeadTail.{counts-read}
use Rattle.read_walk.proofs.OneFunction.{function-at, by_parts, no_head}
use Rattle.read_chunk.proofs.MainAt.{MainAt, main-at}

-- the first function that is read is of the head that stands there
first_head : (s : Bytes) (L : ResourceLimits) (n at : ℕ) {h : Head} {a : ℕ} {ps : List Prototype} {to : ℕ} {rest : Bytes} → head L 0 at (drop at s) ≡ ok h a (drop a s) → function-at s L n outermost at ≡ ok ps to rest
    → length h.lists.upvalues.items ≡ upvalues_of_main ps
first_head s L n at {h} {a} {ps} {to} {rest} e₁ e = by (forest h.protos.count (entered L n) (inside outermost h) a (drop a s)) (sym (by_parts s L n outermost at ∙ taken _ e₁) ∙ e)
  where
    ended : List Prototype → Tail → Reader (List Prototype)
    ended nested t end = give (prototype_of outermost at h t end ∷ nested) end

    behind : (nested : List Prototype) (o : Read Tail) → next o (ended nested) ≡ ok ps to rest → length h.lists.upvalues.items ≡ upvalues_of_main ps
    behind nested (refused q) e = absurd (never e)
    behind nested (ok t end f) e =
        let all : prototype_of outermost at h t end ∷ nested ≡ ps = cc in
        ap upvalues_of_main all

    by : (o : Read (List Prototype)) → next o (λ nested c d. next (tail L.max_string_bytes c d) (ended nested)) ≡ ok ps to rest → length h.lists.upvalues.items ≡ upvalues_of_main ps
    by (refused q) e = absurd (never e)
    by (ok nested c d) e = behind nested (tail L.max_string_bytes c d) e

module _ (s : Bytes) (L : ResourceLimits) (x : Reading) (is : read L s ≡ shown x) where
  place : MainAt L s x.functions
  place =
      let c = read_sound L s x is in
      rw (← ap (λ (r : Reading). r.functions) c.shows) (main-at L s (ap (main L 0) c.whole ∙ (exact_main L).complete c.trailing c.main))

  pub main-counted : (n : HeadCounts) (c : Cursor) → Ok (n, c) ≡ head_counts_result (head L 0 32 (drop 32 s)) → n.upvalues ≡ upvalues_of_main x.functions
  main-counted n c e =
      let o = counts-read s L 0 32 n c e in
      ap (λ (n : HeadCounts). n.upvalues) o.shows ∙ first_head s L L.max_nesting_depth 32 o.is place.reads

  pub main-refused : (q : Refusal) → Err q ≡ head_counts_result (head L 0 32 (drop 32 s)) → ⊥
  main-refused q e = by (head L 0 32 (drop 32 s)) refl e
    where
      by : (o : Read Head) → head L 0 32 (drop 32 s) ≡ o → Err q ≡ head_counts_result o → ⊥
      by (ok h to rest) p e = let z : ◌≡◌ {A = ℕ} 0 1 = cc in omega arith
      by (refused q) p e = never (sym (no_head s L L.max_nesting_depth outermost 32 p) ∙ place.reads)
