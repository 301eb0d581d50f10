-- Laws of the rows still to come: no function left at a level, too deep, and one more function.
-- Assumes nothing.
use Rattle.std.specs.Prelude.{Result, Ok, Err}
use Rattle.std.specs.Result.{is_ok}
use Rattle.format.specs.declared.refusal.Refusal.{Refusal}
use Rattle.read_prototype.specs.declared.parts.Head.{Head}
use Rattle.read_prototype.specs.declared.parts.Tail.{Tail}
use Rattle.slice.specs.declared.cursor.Cursor.{Cursor}
use mathlib.Core.Path.{◌≡◌, refl, ap, ◌∙◌}
use mathlib.Core.List.{List, [], ◌∷◌, ◌++◌, append_assoc, append-nil}
use Prim.Native.Nat.{ℕ, zero, suc, ◌+◌, ◌-◌, ◌<◌, ◌≤◌}
use native.Mathlib.Nat.{not-suc-le-zero}
use native.Mathlib.Numerals.{sub-one, add-one}
use native.Mathlib.Omega.{arith}
use lib.ListN.{length, get_or, set, length-set}
use lib.Seq.{get_or-set_same, get_or-set_other}
use Rattle.format.specs.declared.limits.ResourceLimits.{ResourceLimits}
use Rattle.format.specs.Limits.{DEEPEST}
use Rattle.format.specs.Form.{Bytes}
use Rattle.read_next.specs.Inner.Rows.{LEVELS, row_shown, head_at, tail_at, on_head, on_tail, Walked, through, cut, before, and_then, times, body_at, function_at, rows_of, chunk_rows, onward, rows_from, entered, any_row}
use Rattle.read_next.specs.declared.Row.{Row}

-- laws of `onward`
onward-before : (rows : List Row) (w : Walked) (k : ℕ → List Row) → onward (before rows w) k ≡ rows ++ onward w k
onward-before rows (through more place) k = append_assoc rows more (k place)
onward-before rows (cut more) k = refl

onward_then : (w : Walked) (f : ℕ → Walked) (k : ℕ → List Row) → onward (and_then w f) k ≡ onward w (λ p. onward (f p) k)
onward_then (through rows place) f k = onward-before rows (f place) k
onward_then (cut rows) f k = refl

onward-same : (w : Walked) (f g : ℕ → List Row) → ((p : ℕ) → f p ≡ g p) → onward w f ≡ onward w g
onward-same (through rows place) f g e = ap (λ (l : List Row). rows ++ l) (e place)
onward-same (cut rows) f g e = refl

tail-same : (x : Result (Tail × Cursor) Refusal) (f g : ℕ → List Row) → ((p : ℕ) → f p ≡ g p) → on_tail x [] f ≡ on_tail x [] g
tail-same (Ok (t, next)) f g e = e next.at
tail-same (Err q) f g e = refl

onward-tail : (x : Result (Tail × Cursor) Refusal) (k : ℕ → List Row) → onward (on_tail x (cut []) (through [])) k ≡ on_tail x [] k
onward-tail (Ok (t, next)) k = refl
onward-tail (Err q) k = refl

onward-head : (d : ℕ) (h : Result (Head × Cursor) Refusal) (f : Row → ℕ → Walked) (g : Row → ℕ → List Row) (k : ℕ → List Row)
    → ((row : Row) (first : ℕ) → onward (f row first) k ≡ g row first) → onward (on_head d h (cut []) f) k ≡ on_head d h [] g
onward-head d (Ok (h, next)) f g k e = e (row_shown d h) next.at
onward-head d (Err q) f g k e = refl

-- there is a row where the head is read
pub any_read : (d : ℕ) (h : Result (Head × Cursor) Refusal) (f : Row → ℕ → List Row) → is_ok h ≡ any_row (on_head d h [] (λ row first. row ∷ f row first))
any_read d (Ok (h, next)) f = refl
any_read d (Err q) f = refl

times_none : (one : ℕ → Walked) (n at : ℕ) → n ≤ 0 → times one n at ≡ through [] at
unfolding times
times_none one zero at h = refl
times_none one (suc n) at h = absurd (not-suc-le-zero h)

times_more : (one : ℕ → Walked) (n at : ℕ) → 0 < n → times one n at ≡ and_then (one at) (times one (n - 1))
unfolding times
times_more one zero at h = absurd (not-suc-le-zero h)
times_more one (suc n) at h = rw sub-one

-- what comes behind the last function of a level
abbrev above : ResourceLimits → Bytes → List ℕ → ℕ → ℕ → List Row
above L s left zero behind = []
above L s left (suc d) behind = on_tail (tail_at L s behind) [] (rows_from L s left d)

module _ (L : ResourceLimits) (s : Bytes) where
  rows_are : (left : List ℕ) (d at : ℕ) → rows_from L s left d at ≡ onward (times (function_at L s (LEVELS - d)) (get_or left d 0) at) (above L s left d)
  unfolding rows_from
  rows_are left zero at = refl
  rows_are left (suc d) at = refl

  -- the rows of the levels up to d do not depend on `left` below d
  rows_set : (left : List ℕ) (k n d at : ℕ) → d < k → rows_from L s (set left k n) d at ≡ rows_from L s left d at
  unfolding rows_from
  rows_set left k n zero at h = rw (get_or-set_other left k 0 n 0 (λ e. omega arith))
  rows_set left k n (suc d) at h =
      rw (get_or-set_other left k (suc d) n 0 (λ e. omega arith))
      (onward-same (times (function_at L s (LEVELS - suc d)) (get_or left (suc d) 0) at) _ _ (λ behind.
      tail-same (tail_at L s behind) _ _ (λ p. rows_set left k n d p (omega arith))))

  above_set : (left : List ℕ) (k n d behind : ℕ) → d ≤ k → above L s (set left k n) d behind ≡ above L s left d behind
  above_set left k n zero behind h = refl
  above_set left k n (suc d) behind h = tail-same (tail_at L s behind) _ _ (λ p. rows_set left k n d p (omega arith))

  above_next : (left : List ℕ) (d behind : ℕ) → above L s left (d + 1) behind ≡ on_tail (tail_at L s behind) [] (rows_from L s left d)
  above_next left d behind = rw (add-one d)

  pub none_at_top : (left : List ℕ) (d at : ℕ) → get_or left d 0 ≤ 0 → d ≡ 0 → rows_from L s left d at ≡ []
  none_at_top left d at h e = rw (rows_are left d at, times_none _ _ at h, e)

  pub none_here : (left : List ℕ) (d at : ℕ) → get_or left d 0 ≤ 0 → (d ≡ 0 → ⊥) → rows_from L s left d at ≡ on_tail (tail_at L s at) [] (rows_from L s left (d - 1))
  none_here left zero at h e = absurd (e refl)
  none_here left (suc d) at h e = rw (rows_are left (suc d) at, times_none _ _ at h, sub-one (suc d))

  pub too_deep_lem : (left : List ℕ) (d at : ℕ) → 0 < get_or left d 0 → LEVELS ≤ d → rows_from L s left d at ≡ []
  unfolding function_at
  too_deep_lem left d at h e = let z : LEVELS - d ≡ 0 = omega arith in rw (rows_are left d at, times_more _ _ at h, z)

  -- one function of a level, by what comes behind the level
  level_more : (levels n at : ℕ) (k : ℕ → List Row) → 0 < n → onward (times (function_at L s (suc levels)) n at) k
      ≡ on_head (DEEPEST - levels) (head_at L s at) [] (λ row first. row ∷ onward (times (function_at L s levels) row.protos first) (λ behind.
      on_tail (tail_at L s behind) [] (λ p. onward (times (function_at L s (suc levels)) (n - 1) p) k)))
  unfolding function_at body_at
  level_more levels n at k h =
      rw (times_more _ n at h, onward_then)
      (onward-head (DEEPEST - levels) (head_at L s at) _ _ _ (λ row first.
      onward-before (row ∷ []) (and_then (times (function_at L s levels) row.protos first) (λ behind. on_tail (tail_at L s behind) (cut []) (through []))) _
      ∙ ap (λ (l : List Row). row ∷ l)
      (onward_then (times (function_at L s levels) row.protos first) _ _ ∙ onward-same (times (function_at L s levels) row.protos first) _ _ (λ behind. onward-tail (tail_at L s behind) _))))

  head-same : (d : ℕ) (h : Result (Head × Cursor) Refusal) (f g : Row → ℕ → List Row) → ((row : Row) (first : ℕ) → f row first ≡ g row first) → on_head d h [] f ≡ on_head d h [] g
  head-same d (Ok (h, next)) f g e = e (row_shown d h) next.at
  head-same d (Err q) f g e = refl

  -- the rows at a level of which one function was taken
  one_fewer : (left : List ℕ) (d n p : ℕ) → d + 1 < length left
      → rows_from L s (entered left d n) d p ≡ onward (times (function_at L s (LEVELS - d)) (get_or left d 0 - 1) p) (above L s left d)
  one_fewer left d n p fits =
      rw (rows_set (set left d (get_or left d 0 - 1)) (d + 1) n d p (omega arith), rows_are (set left d (get_or left d 0 - 1)) d p, get_or-set_same left d (get_or left d 0 - 1) 0 (omega arith))
      (onward-same (times (function_at L s (LEVELS - d)) (get_or left d 0 - 1) p) _ _ (λ behind. above_set left d (get_or left d 0 - 1) d behind (omega arith)))

  entered_rows : (left : List ℕ) (d n first : ℕ) → d < LEVELS → d + 1 < length left → rows_from L s (entered left d n) (d + 1) first
      ≡ onward (times (function_at L s (DEEPEST - d)) n first) (λ behind.
      on_tail (tail_at L s behind) [] (λ p. onward (times (function_at L s (LEVELS - d)) (get_or left d 0 - 1) p) (above L s left d)))
  entered_rows left d n first low fits =
      let z : LEVELS - (d + 1) ≡ DEEPEST - d = omega arith in
      rw (rows_are (entered left d n) (d + 1) first, z, get_or-set_same (set left d (get_or left d 0 - 1)) (d + 1) n 0 (rw length-set (omega arith)))
      (onward-same (times (function_at L s (DEEPEST - d)) n first) _ _ (λ behind.
      above_next (entered left d n) d behind ∙ tail-same (tail_at L s behind) _ _ (λ p. one_fewer left d n p fits)))

  pub one_more : (left : List ℕ) (d at : ℕ) → 0 < get_or left d 0 → d < LEVELS → length left ≡ LEVELS + 1
      → rows_from L s left d at ≡ on_head d (head_at L s at) [] (λ row first. row ∷ rows_from L s (entered left d row.protos) (d + 1) first)
  one_more left d at h low long =
      let fits : d + 1 < length left = omega arith in
      let z : LEVELS - d ≡ suc (DEEPEST - d) = omega arith in
      let here : DEEPEST - (DEEPEST - d) ≡ d = omega arith in
      rw (rows_are left d at, z, level_more (DEEPEST - d) _ at _ h, here)
      (head-same d (head_at L s at) _ _ (λ row first. rw (entered_rows left d row.protos first low fits, z)))

  -- the whole chunk: one function, at the top
  pub at_start : (left : List ℕ) (at : ℕ) → get_or left 0 0 ≡ 1 → rows_from L s left 0 at ≡ chunk_rows L s at
  unfolding chunk_rows rows_from times
  at_start left at e = rw e (only (function_at L s LEVELS at))
    where
      only : (w : Walked) → onward (and_then w (through [])) (λ behind. []) ≡ rows_of w
      only (through rows place) = simp append-nil
      only (cut rows) = refl
