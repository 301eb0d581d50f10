-- Where a reading of functions succeeds, the rows up to a refusal are the rows of all its functions.
-- Assumes nothing.
use mathlib.Core.Path.{◌≡◌, refl, sym, ap, subst}
use mathlib.Core.Bool.{Bool, true, false}
use mathlib.Core.List.{List, [], ◌∷◌, ◌++◌, append-nil}
use Prim.Native.Nat.{ℕ, zero, suc, ◌+◌, ◌-◌, ◌<◌, ◌≤◌}
use native.Mathlib.Omega.{arith}
use lib.Dec.{leb}
use lib.ListN.{drop}
use Rattle.format.specs.Limits.{DEEPEST}
use Rattle.format.specs.declared.limits.ResourceLimits.{ResourceLimits}
use Rattle.format.specs.declared.refusal.Refusal.TheVariants.{TotalPrototypes}
use Rattle.format.specs.Form.{Bytes}
use Rattle.format.specs.Reading.{Prototype}
use Rattle.format.specs.GrammarChunk.{Where, after}
use Rattle.format.specs.Read.{Read, ok, refused, next, give, test}
use Rattle.format.specs.ReadChunk.{forest, function}
use Rattle.format.proofs.ExactChunk.{exact_forest}
use Rattle.format.proofs.Left.{left}
use Rattle.read_prototype.specs.Parts.{Head, head, Tail, tail}
use Rattle.read_prototype.specs.Inner.Whole.{prototype_of, inside}
use Rattle.read_prototype.specs.PartsShown.{head_of, head_result, tail_result}
use Rattle.read_walk.specs.Inner.Skim.{entered}
use Rattle.read_walk.proofs.Entering.{exact_entered}
use Rattle.read_walk.proofs.HeadTail.{exact_head}
use Rattle.read_walk.proofs.OneFunction.{by_parts}
use Rattle.read_next.specs.Inner.Rows.{LEVELS, row_shown, head_at, tail_at, on_head, on_tail, Walked, through, cut, before, and_then, times, body_at, function_at, chunk_rows, prototype_row}
use Rattle.read_next.specs.declared.Row.{Row}
use Rattle.read_next.proofs.Fewer.{Fewer, fewer_head}

abbrev pub rows_for : List Prototype → List Row
rows_for [] = []
rows_for (p ∷ ps) = prototype_row p ∷ rows_for ps

rows_append : (ps more : List Prototype) → rows_for (ps ++ more) ≡ rows_for ps ++ rows_for more
rows_append [] more = refl
rows_append (p ∷ ps) more = ap (λ l. prototype_row p ∷ l) (rows_append ps more)

abbrev Agree : Read (List Prototype) → Walked → Type 0
Agree (ok ps to rest) w = w ≡ through (rows_for ps) to
Agree (refused q) w = Unit {0}

module _ (L : ResourceLimits) (s : Bytes) where
  -- ## Functions one behind the other
  joined : (ps : List Prototype) (o : Read (List Prototype)) (w : Walked) → Agree o w → Agree (next o (λ more. give (ps ++ more))) (before (rows_for ps) w)
  joined ps (ok more to rest) w a = rw (a, rows_append)
  joined ps (refused q) w a = tt

  -- those that nest in a function of this level
  module _ (depth left_over : ℕ) (one : ℕ → Walked) (agree : (w : Where) (at : ℕ) → w.depth ≡ depth + 1 → Agree (entered L left_over w at (drop at s)) (one at)) where
    agree_more : (n : ℕ) → ((w : Where) (at : ℕ) → w.depth ≡ depth + 1 → Agree (forest n (entered L left_over) w at (drop at s)) (times one n at)) → (w : Where) (at : ℕ) → w.depth ≡ depth + 1
        → (o : Read (List Prototype)) → entered L left_over w at (drop at s) ≡ o → Agree o (one at)
        → Agree (next o (λ ps to rest. next (forest n (entered L left_over) (after ps w) to rest) (λ more. give (ps ++ more)))) (and_then (one at) (times one n))
    agree_more n others w at deep (ok ps to rest) e a =
        rw (a, left (exact_entered L left_over w) s at e) (joined ps (forest n (entered L left_over) (after ps w) to (drop to s)) (times one n to) (others (after ps w) to deep))
    agree_more n others w at deep (refused q) e a = tt

    agree_forest : (n : ℕ) (w : Where) (at : ℕ) → w.depth ≡ depth + 1 → Agree (forest n (entered L left_over) w at (drop at s)) (times one n at)
    unfolding times
    agree_forest zero w at deep = refl
    agree_forest (suc n) w at deep = agree_more n (agree_forest n) w at deep (entered L left_over w at (drop at s)) refl (agree w at deep)

    -- ## A function
    agree_tail : (w : Where) (at : ℕ) (h : Head) (ps : List Prototype) (o : Read Tail)
        → Agree (next o (λ t end rest. ok (prototype_of w at h t end ∷ ps) end rest)) (before (row_shown w.depth (head_of h) ∷ []) (before (rows_for ps) (on_tail (tail_result o) (cut []) (through []))))
    agree_tail w at h ps (ok t end rest) = simp append-nil
    agree_tail w at h ps (refused q) = tt

    agree_nested : (w : Where) (at : ℕ) (h : Head) (first : ℕ) (o : Read (List Prototype)) → forest h.protos.count (entered L left_over) (inside w h) first (drop first s) ≡ o
        → Agree o (times one h.protos.count first)
        → Agree (next o (λ ps behind rest. next (tail L.max_string_bytes behind rest) (λ t end rest. ok (prototype_of w at h t end ∷ ps) end rest)))
        (before (row_shown w.depth (head_of h) ∷ []) (and_then (times one h.protos.count first) (λ behind. on_tail (tail_at L s behind) (cut []) (through []))))
    unfolding tail_at
    agree_nested w at h first (ok ps behind rest) e a =
        rw (a, left (exact_forest h.protos.count (inside w h) (exact_entered L left_over)) s first e) (agree_tail w at h ps (tail L.max_string_bytes behind (drop behind s)))
    agree_nested w at h first (refused q) e a = tt

    agree_head : (w : Where) → w.depth ≡ depth → (at : ℕ) (o p : Read Head) → head L w.instructions at (drop at s) ≡ o → Fewer o p
        → Agree (next o (λ h first rest. next (forest h.protos.count (entered L left_over) (inside w h) first rest) (λ ps behind rest. next (tail L.max_string_bytes behind rest) (λ t end rest. ok (prototype_of w at h t end ∷ ps) end rest))))
        (on_head w.depth (head_result p) (cut []) (λ row first. before (row ∷ []) (and_then (times one row.protos first) (λ behind. on_tail (tail_at L s behind) (cut []) (through [])))))
    agree_head w deep at (ok h first rest) p e f =
        rw (f.holds h first rest refl, left (exact_head L w.instructions) s at e)
        (agree_nested w at h first (forest h.protos.count (entered L left_over) (inside w h) first (drop first s)) refl (agree_forest h.protos.count (inside w h) first (ap (λ d. d + 1) deep)))
    agree_head w deep at (refused q) p e f = tt

    agree_body : (w : Where) → w.depth ≡ depth → (at : ℕ) → Agree (function L left_over w at (drop at s)) (body_at L s depth (times one) at)
    unfolding body_at head_at
    agree_body w deep at =
        rw (← deep)
        (subst (λ (o : Read (List Prototype)). Agree o (body_at L s w.depth (times one) at)) (sym (by_parts s L left_over w at))
        (agree_head w deep at (head L w.instructions at (drop at s)) (head L 0 at (drop at s)) refl (fewer_head L w.instructions at (drop at s))))

  -- the test on entering
  agree_enter : (t : Bool) (w : Where) (n at : ℕ) (walked : Walked) → Agree (function L n w at (drop at s)) walked
      → Agree (next (test t (TotalPrototypes at) at (drop at s)) (λ _. function L n w)) walked
  agree_enter true w n at walked a = a
  agree_enter false w n at walked a = tt

  pub agree : (n levels : ℕ) → n < levels → (w : Where) → w.depth + levels ≡ LEVELS → (at : ℕ) → Agree (function L n w at (drop at s)) (function_at L s levels at)
  unfolding function_at
  agree n zero h w deep at = absurd (omega arith)
  agree zero (suc levels) h w deep at = agree_body (DEEPEST - levels) zero (function_at L s levels) (λ w at d. tt) w (omega arith) at
  agree (suc n) (suc levels) h w deep at =
      agree_body (DEEPEST - levels) (suc n) (function_at L s levels) (λ w at d. agree_enter (leb w.number L.max_total_prototypes) w n at _ (agree n levels (omega arith) w (omega arith) at)) w (omega arith) at

  pub all_rows : (n : ℕ) → n ≤ DEEPEST → (w : Where) → w.depth ≡ 0 → (at : ℕ) {ps : List Prototype} {to : ℕ} {rest : Bytes} → function L n w at (drop at s) ≡ ok ps to rest → chunk_rows L s at ≡ rows_for ps
  unfolding chunk_rows
  all_rows n h w top at e = rw (subst (λ (o : Read (List Prototype)). Agree o (function_at L s LEVELS at)) e (agree n LEVELS (omega arith) w (omega arith) at))
