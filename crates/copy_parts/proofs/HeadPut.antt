-- What is shown and put of a function before the functions that nest in it.
-- Assumes nothing.
use Rattle.std.specs.Prelude.{Result, Ok, Err}
use mathlib.Core.Path.{◌≡◌, sym, ◌∙◌, ap}
use mathlib.Core.Bool.{Bool}
use mathlib.Core.List.{◌++◌}
use Prim.Native.Nat.{ℕ, ◌-◌, ◌*◌, ◌≤◌}
use native.Mathlib.Omega.{arith}
use lib.ListN.{length, take, drop}
use Rattle.format.specs.declared.limits.ResourceLimits.{ResourceLimits}
use Rattle.format.specs.declared.refusal.Refusal.{Refusal}
use Rattle.format.specs.Form.{Bytes, Below}
use Rattle.format.specs.Read.{ok, many}
use Rattle.format.specs.ReadChunk.{constant}
use Rattle.format.specs.Shortest.{shortest}
use Rattle.format.specs.Copy.{constant_bytes}
use Rattle.slice.specs.declared.cursor.Cursor.{Cursor}
use Rattle.read_prototype.specs.declared.parts.HeadLists as declared-lists
use Rattle.read_prototype.specs.declared.parts.Head as declared-head
use Rattle.read_prototype.specs.Parts.{HeadLists, head_lists, head}
use Rattle.read_prototype.specs.PartsShown.{lists_of, head_of, head_result}
use Rattle.copy_put.specs.Inner.Put.{Put, PutsAll}
use Rattle.copy_parts.specs.Inner.Parts.{lists_bytes}
use Rattle.copy_parts.specs.Inner.Fronts.{FrontPut}
use Rattle.copy_parts.specs.declared.parts.Counts.{Counts}
use Rattle.copy_parts.specs.Inner.Heads.{lists_counted, counts_of, head_counted, PutsLists, PutsHead}
use Rattle.copy_parts.proofs.FrontPut.{same-value, same-behind}
use Rattle.copy_parts.proofs.PutParts.{lists-put, head-put}

pub lists_copied : (s : Bytes) (L : ResourceLimits) (lists : declared-lists.HeadLists) {y : Result (declared-lists.HeadLists × Cursor) Refusal} {c : Cursor} {at w₁ w₂ b : ℕ} {k k₁ k₂ k' : Bytes} → Ok (lists, c) ≡ y
    → (lists.instructions.count * 4 ≤ length s - lists.instructions.place → Put (shortest lists.instructions.count ++ take (lists.instructions.count * 4) (drop lists.instructions.place s)) at k w₁ k₁)
    → (Below 256 s → PutsAll constant_bytes (many lists.constants.count (constant L.max_string_bytes) lists.constants.place (drop lists.constants.place s)) w₁ k₁ w₂ k₂)
    → (lists.upvalues.count * 3 ≤ length s - lists.upvalues.place → Put (shortest lists.upvalues.count ++ take (lists.upvalues.count * 3) (drop lists.upvalues.place s)) w₂ k₂ b k')
    → PutsLists L s y at k b k'
lists_copied s L lists is p q r = record { put = λ lists' c' e before from to h rest bytes f shows. let same : lists ≡ lists' = same-value (is ∙ e) in lists-put s L lists p q r before from to h rest bytes f (same ∙ shows) }

-- ## What was read of the lists, by how much was kept
pub record ListsWere (y : Result (declared-lists.HeadLists × Cursor) Refusal) (n u : ℕ) (c : Cursor) : Type 0 where
  pub value : declared-lists.HeadLists
  pub is : Ok (value, c) ≡ y
  pub instructions : n ≡ value.instructions.count
  pub upvalues : u ≡ value.upvalues.count

not-counted : {q : Refusal} {n u : ℕ} {c : Cursor} → ◌≡◌ {A = Result (ℕ × ℕ × Cursor) Refusal} (Ok (n, u, c)) (Err q) → ⊥
not-counted e = let z : ◌≡◌ {A = ℕ} 0 1 = cc in omega arith

same-counts : {n u m v : ℕ} {c d : Cursor} → ◌≡◌ {A = Result (ℕ × ℕ × Cursor) Refusal} (Ok (n, u, c)) (Ok (m, v, d)) → (n ≡ m) × ((u ≡ v) × (c ≡ d))
same-counts {n} {u} {m} {v} {c} {d} e =
    let all : ◌≡◌ {A = ℕ × ℕ × Cursor} (n, u, c) (m, v, d) = cc in
    (ap (λ k. k.0) all, (ap (λ k. k.1) all, ap (λ k. k.2) all))

same-refusal : {p q : Refusal} → ◌≡◌ {A = Result (ℕ × ℕ × Cursor) Refusal} (Err p) (Err q) → p ≡ q
same-refusal e = cc

pub lists_were : (y : Result (declared-lists.HeadLists × Cursor) Refusal) (n u : ℕ) (c : Cursor) → Ok (n, u, c) ≡ lists_counted y → ListsWere y n u c
lists_were (Ok (x, d)) n u c e = let k = same-counts e in record { value = x; is = ap (λ c. Ok (x, c)) k.1.1; instructions = k.0; upvalues = k.1.0 }
lists_were (Err q) n u c e = absurd (not-counted e)

pub lists_stops : (y : Result (declared-lists.HeadLists × Cursor) Refusal) (q : Refusal) → Err q ≡ lists_counted y → Err q ≡ y
lists_stops (Ok (x, d)) q e = absurd (not-counted (sym e))
lists_stops (Err p) q e = ap Err (same-refusal e)

module _ (s : Bytes) (L : ResourceLimits) (before at : ℕ) (named : Bool) {head' : declared-head.Head} {c : Cursor} (shown : Ok (head', c) ≡ head_result (head L before at (drop at s))) where
  pub head_copied : {w₃ w₄ b : ℕ} {k k₃ k₄ k' : Bytes}
      → FrontPut s named head'.front k w₃ k₃
      → ((before from to : ℕ) (h : HeadLists) (rest : Bytes) → Below 256 s → head_lists L before from (drop from s) ≡ ok h to rest → head'.lists ≡ lists_of h → Put (lists_bytes h) w₃ k₃ w₄ k₄)
      → Put (shortest head'.protos.count) w₄ k₄ b k'
      → Below 256 s → PutsHead named (head L before at (drop at s)) k b k'
  head_copied z u v bytes = record {
    put = λ h to rest e.
        let same : head' ≡ head_of h = same-value (shown ∙ ap head_result e) in
        head-put s L named head' z.source z.lines z.sizes u v before at to h rest bytes e same;
  }

-- ## What was read of a head, by how much was kept
pub record CountsWere (y : Result (declared-head.Head × Cursor) Refusal) (k : Counts) (c : Cursor) : Type 0 where
  pub value : declared-head.Head
  pub is : Ok (value, c) ≡ y
  pub counted : k ≡ counts_of value

no_counts : {k : Counts} {c : Cursor} {q : Refusal} → ◌≡◌ {A = Result (Counts × Cursor) Refusal} (Ok (k, c)) (Err q) → ⊥
no_counts e = let z : ◌≡◌ {A = ℕ} 0 1 = cc in omega arith

same_stop : {p q : Refusal} → ◌≡◌ {A = Result (Counts × Cursor) Refusal} (Err p) (Err q) → p ≡ q
same_stop e = cc

pub counts_were : (y : Result (declared-head.Head × Cursor) Refusal) (k : Counts) (c : Cursor) → Ok (k, c) ≡ head_counted y → CountsWere y k c
counts_were (Ok (x, d)) k c e = record { value = x; is = ap (λ c. Ok (x, c)) (same-behind e); counted = same-value e }
counts_were (Err q) k c e = absurd (no_counts e)

pub counts_stops : (y : Result (declared-head.Head × Cursor) Refusal) (q : Refusal) → Err q ≡ head_counted y → Err q ≡ y
counts_stops (Ok (x, d)) q e = absurd (no_counts (sym e))
counts_stops (Err p) q e = ap Err (same_stop e)
