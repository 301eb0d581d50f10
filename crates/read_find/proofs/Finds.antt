-- What a walk has found: at each return of `find_function`, and at each turn of the loop of `find_functions`.
--     unfound              a walk that refuses may have left anything
--     nested_refused, tail-refused, function-shown     what a walk over a function shows, as read_walk's Passes.antt has it, from the place of a source
--     function-found       behind a function: its own row, where it is the one wanted, else what was found in it
--     Behind               in the loop: what was found among the functions passed
--     Walked               behind those that nest in a function: what a walk over them shows, and what it has found
-- Assumes nothing.
use Rattle.std.specs.Prelude.{Option, Some, Result, Ok, Err}
use Rattle.read_prototype.specs.declared.row.FunctionRow.{FunctionRow}
use mathlib.Core.Path.{◌≡◌, refl, sym, subst, ◌∙◌, ap}
use mathlib.Core.Bool.{Bool, true, false, cond}
use mathlib.Core.List.{List, [], ◌∷◌, ◌++◌}
use mathlib.Core.Option.{none, some}
use Prim.Native.Nat.{ℕ, ◌+◌, ◌-◌, ◌<◌, ◌≤◌}
use native.Mathlib.Omega.{arith}
use borrow.Author.Tests.{ne_eqb, eqb-true}
use lib.Dec.{eqb}
use lib.ListN.{length, drop}
use Rattle.format.specs.declared.limits.ResourceLimits.{ResourceLimits}
use Rattle.format.specs.declared.refusal.Refusal.{Refusal}
use Rattle.format.specs.Form.{Bytes}
use Rattle.format.specs.Reading.{Prototype}
use Rattle.format.specs.GrammarChunk as grammar
use Rattle.format.specs.Read.{Read}
use Rattle.format.specs.ReadChunk.{forest}
use Rattle.format.proofs.Exact.{never}
use Rattle.slice.specs.declared.cursor.Cursor.{Cursor}
use Rattle.read_prototype.specs.declared.pass.HeadCounts.{HeadCounts}
use Rattle.read_prototype.specs.declared.pass.TailCounts.{TailCounts}
use Rattle.read_prototype.specs.Parts as parts
use Rattle.read_prototype.specs.Inner.Counts.{head_counts_result, tail_counts_result}
use Rattle.read_prototype.specs.Inner.Row.{row_of, lookup}
use Rattle.read_prototype.specs.Inner.Whole.{prototype_of}
use Rattle.read_walk.specs.declared.walk.Skimmed.{Skimmed}
use Rattle.read_walk.specs.Inner.Skim.{entered, skim_result}
use Rattle.read_walk.proofs.OneFunction.{skim_err}
use Rattle.read_walk.proofs.Passes as passes
use Rattle.read_walk.proofs.SoFar.{SoFar, starts, ends, ended, next-read, goes_on_lem}
use Rattle.read_find.specs.declared.spot.Above.{Above}
use Rattle.read_find.specs.Inner.Spot.{spot_of, below_shown, standing, function_at, functions_at, row_at, row_or, Found}
use Rattle.read_find.proofs.Spots.{below_stands, this_row}

-- ## Among functions
none-behind : (n k : ℕ) (ps : List Prototype) → n < k → lookup n k ps ≡ none
none-behind n k [] h = refl
none-behind n k (p ∷ ps) h = rw (ne_eqb n k (λ e. omega (arith, e, h))) (none-behind n (k + 1) ps (omega (arith, h)))

row_append : (n k : ℕ) (ps qs : List Prototype) (r : Option FunctionRow) → row_or (lookup n k (ps ++ qs)) r ≡ row_or (lookup n (k + length ps) qs) (row_or (lookup n k ps) r)
row_append n k [] qs r = let e : k ≡ k + 0 = omega arith in ap (λ j. row_or (lookup n j qs) r) e
row_append n k (p ∷ ps) qs r = by (row_append n (k + 1) ps qs r) (eqb n k) refl
  where
    by : row_or (lookup n (k + 1) (ps ++ qs)) r ≡ row_or (lookup n (k + 1 + length ps) qs) (row_or (lookup n (k + 1) ps) r) → (t : Bool) → eqb n k ≡ t → row_or (cond t (some p) (lookup n (k + 1) (ps ++ qs))) r ≡ row_or (lookup n (k + length (p ∷ ps)) qs) (row_or (cond t (some p) (lookup n (k + 1) ps)) r)
    by more true e = let same : n ≡ k = eqb-true n k e in sym (ap (λ o. row_or o (Some (row_of p))) (none-behind n (k + length (p ∷ ps)) qs (omega arith)))
    by more false e = let behind : k + 1 + length ps ≡ k + length (p ∷ ps) = omega arith in more ∙ ap (λ j. row_or (lookup n j qs) (row_or (lookup n (k + 1) ps) r)) behind

pub unfound : {wanted k : ℕ} (w : grammar.Where) {o : Read (List Prototype)} {r r' : Option FunctionRow} {q : Refusal} → Err q ≡ skim_result w o → Found wanted k o r r'
unfound w {o} {q = q} e = record { found = λ ps to rest is. absurd (never (sym (skim_err w o q e) ∙ is)) }

-- ## A function
module _ (s : Bytes) (L : ResourceLimits) (left : ℕ) (above : Above) (from : Skimmed)
    (n : HeadCounts) (c₁ : Cursor) (e₁ : Ok (n, c₁) ≡ head_counts_result (parts.head L from.instructions from.next.at (drop from.next.at s)))
    (nest : Above) (inherits : nest ≡ below_shown above from n.named) where
  abbrev place : grammar.Where
  place = standing L s above from

  abbrev pub first : Skimmed
  first = record { next = c₁; number = from.number + 1; instructions = from.instructions + n.instructions }

  abbrev within : grammar.Where
  within = passes.first s L left place from.next.at refl n c₁ e₁

  -- where the functions stand that nest in it
  stands : standing L s nest first ≡ within
  stands =
      ap (λ a. standing L s a first) inherits
      ∙ ap (λ n. standing L s (below_shown above from n.named) (record { next = c₁; number = from.number + 1; instructions = from.instructions + n.instructions })) (passes.head-counts s L left place from.next.at refl n c₁ e₁)
      ∙ below_stands L s above from (passes.head-on s L left place from.next.at refl n c₁ e₁) c₁

  shown-there : skim_result (standing L s nest first) (functions_at L s n.protos left nest first) ≡ skim_result within (passes.inner s L left place from.next.at refl n c₁ e₁)
  shown-there = ap (λ w. skim_result w (forest n.protos (entered L left) w c₁.at (drop c₁.at s))) stands

  pub nested_refused : (q : Refusal) → Err q ≡ skim_result (standing L s nest first) (functions_at L s n.protos left nest first) → Err q ≡ skim_result place (function_at L s left above from)
  nested_refused q e = passes.nested_refused s L left place from.next.at refl n c₁ e₁ q (e ∙ shown-there)

  module _ (k : Skimmed) (e₂ : Ok k ≡ skim_result (standing L s nest first) (functions_at L s n.protos left nest first)) where
    pub tail-refused : (q : Refusal) → Err q ≡ tail_counts_result (parts.tail L.max_string_bytes k.next.at (drop k.next.at s)) → Err q ≡ skim_result place (function_at L s left above from)
    tail-refused = passes.tail-refused s L left place from.next.at refl n c₁ e₁ k (e₂ ∙ shown-there)

    module _ (t : TailCounts) (c₃ : Cursor) (e₃ : Ok (t, c₃) ≡ tail_counts_result (parts.tail L.max_string_bytes k.next.at (drop k.next.at s))) where
      pub function-shown : Ok (record { next = c₃; number = k.number; instructions = k.instructions }) ≡ skim_result place (function_at L s left above from)
      function-shown = passes.function-shown s L left place from.next.at refl n c₁ e₁ k (e₂ ∙ shown-there) t c₃ e₃

      abbrev this : Prototype
      this = prototype_of place from.next.at (passes.its_head s L left place from.next.at refl n c₁ e₁) (passes.its_tail s L left place from.next.at refl n c₁ e₁ k (e₂ ∙ shown-there) t c₃ e₃) c₃.at

      abbrev those : List Prototype
      those = (passes.nested s L left place from.next.at refl n c₁ e₁ k (e₂ ∙ shown-there)).value

      its_row : row_at L s (spot_of above from k.next.at) ≡ Some (row_of this)
      its_row = this_row L s above from k.next.at (passes.head-on s L left place from.next.at refl n c₁ e₁) (passes.tailed s L left place from.next.at refl n c₁ e₁ k (e₂ ∙ shown-there) t c₃ e₃).is

      pub function-found : (wanted : ℕ) (l₀ l₁ l₂ : List ℕ) → Found wanted (from.number + 1) (functions_at L s n.protos left nest first) (row_at L s l₀) (row_at L s l₁)
          → l₂ ≡ cond (eqb wanted from.number) (spot_of above from k.next.at) l₁ → Found wanted from.number (function_at L s left above from) (row_at L s l₀) (row_at L s l₂)
      function-found wanted l₀ l₁ l₂ f put = record {
        found = λ ps to rest is.
            let both = sym (passes.function-read s L left place from.next.at refl n c₁ e₁ k (e₂ ∙ shown-there) t c₃ e₃) ∙ is in
            let same : this ∷ those ≡ ps = cc in
            ap (row_at L s) put ∙ by (eqb wanted from.number) ∙ ap (λ ps. row_or (lookup wanted from.number ps) (row_at L s l₀)) same;
      }
        where
          inner_found : row_at L s l₁ ≡ row_or (lookup wanted (from.number + 1) those) (row_at L s l₀)
          inner_found =
              let there : Found wanted (from.number + 1) (passes.inner s L left place from.next.at refl n c₁ e₁) (row_at L s l₀) (row_at L s l₁) = subst (λ w. Found wanted (from.number + 1) (forest n.protos (entered L left) w c₁.at (drop c₁.at s)) (row_at L s l₀) (row_at L s l₁)) stands f in
              there.found those _ _ (passes.nested s L left place from.next.at refl n c₁ e₁ k (e₂ ∙ shown-there)).is

          by : (b : Bool) → row_at L s (cond b (spot_of above from k.next.at) l₁) ≡ row_or (cond b (some this) (lookup wanted (from.number + 1) those)) (row_at L s l₀)
          by true = its_row
          by false = inner_found

-- ## The loop
pub record Behind (s : Bytes) (L : ResourceLimits) (above : Above) (wanted n left : ℕ) (from : Skimmed) (r₀ : Option FunctionRow) (k : Skimmed) (more : ℕ) (r : Option FunctionRow) : Type 0 where
  pub passed : List Prototype
  pub so_far : SoFar (entered L left) s (standing L s above from) n from.next.at k more passed
  pub row : r ≡ row_or (lookup wanted from.number passed) r₀

pub starts-behind : (s : Bytes) (L : ResourceLimits) (above : Above) (wanted n left : ℕ) (from : Skimmed) (r : Option FunctionRow) → Behind s L above wanted n left from r from n r
starts-behind s L above wanted n left from r = record { passed = []; so_far = starts (entered L left) s (standing L s above from) n from refl refl; row = refl }

-- the same, by another term for how many are left
pub as_many : {s : Bytes} {L : ResourceLimits} {above : Above} {wanted n left : ℕ} {from : Skimmed} {r₀ : Option FunctionRow} {k : Skimmed} {more same : ℕ} {r : Option FunctionRow} → more ≡ same
    → Behind s L above wanted n left from r₀ k more r → Behind s L above wanted n left from r₀ k same r
as_many {s} {L} {above} {wanted} {n} {left} {from} {r₀} {k} {r = r} e p = subst (λ more. Behind s L above wanted n left from r₀ k more r) e p

module _ {s : Bytes} {L : ResourceLimits} {above : Above} {wanted n left : ℕ} {from : Skimmed} {r₀ : Option FunctionRow} {k : Skimmed} {more : ℕ} {r : Option FunctionRow} (b : Behind s L above wanted n left from r₀ k more r) where
  pub ends_behind : more ≤ 0 → Found wanted from.number (functions_at L s n left above from) r₀ r
  ends_behind over = record {
    found = λ ps to rest is.
        let both = sym (ended b.so_far over) ∙ is in
        let same : b.passed ≡ ps = cc in
        b.row ∙ ap (λ ps. row_or (lookup wanted from.number ps) r₀) same;
  }

  pub on-behind : (more_left : 0 < more) (level : 0 < left) (few : k.number ≤ L.max_total_prototypes) (later : Skimmed) → Ok later ≡ skim_result (standing L s above k) (function_at L s (left - 1) above k)
      → (r' : Option FunctionRow) → Found wanted k.number (function_at L s (left - 1) above k) r r' → Behind s L above wanted n left from r₀ later (more - 1) r'
  on-behind more_left level few later e r' f =
      let this = next-read L left b.so_far more_left level few later e in
      record {
        passed = b.passed ++ this.value;
        so_far = goes_on_lem L left b.so_far more_left level few later e;
        row = f.found this.value _ _ this.is
            ∙ (λ i. row_or (lookup wanted (b.so_far.number i) this.value) (b.row i))
            ∙ sym (row_append wanted from.number b.passed this.value r₀);
      }

-- ## Those that nest in a function
pub record Walked (s : Bytes) (L : ResourceLimits) (left : ℕ) (nest : Above) (stand : Skimmed) (protos wanted : ℕ) (l₀ : List ℕ) (k : Skimmed) (l : List ℕ) : Type 0 where
  pub shown : Ok k ≡ skim_result (standing L s nest stand) (functions_at L s protos left nest stand)
  pub found : Found wanted stand.number (functions_at L s protos left nest stand) (row_at L s l₀) (row_at L s l)

-- where there are some: they were walked over
pub walked_some : {s : Bytes} {L : ResourceLimits} {left : ℕ} {nest below : Above} {stand : Skimmed} {protos wanted : ℕ} {l₀ l l' : List ℕ} {k k' : Skimmed} {r : Result Skimmed Refusal} → nest ≡ below
    → r ≡ skim_result (standing L s nest stand) (functions_at L s protos left nest stand) → Found wanted stand.number (functions_at L s protos left nest stand) (row_at L s l₀) (row_at L s l')
    → r ≡ Ok k' → k ≡ k' → l ≡ l' → Walked s L left below stand protos wanted l₀ k l
walked_some {s} {L} {left} {nest} {below} {stand} {protos} {wanted} {l₀} {l} {l'} {k} {k'} {r} inherits shown found is same spot = record {
  shown = ap Ok same ∙ sym is ∙ subst (λ b. r ≡ skim_result (standing L s b stand) (functions_at L s protos left b stand)) inherits shown;
  found = subst (λ l. Found wanted stand.number (functions_at L s protos left below stand) (row_at L s l₀) (row_at L s l)) (sym spot)
      (subst (λ b. Found wanted stand.number (functions_at L s protos left b stand) (row_at L s l₀) (row_at L s l')) inherits found);
}

-- where there are none
pub walked_none : (s : Bytes) (L : ResourceLimits) (left : ℕ) (nest : Above) (stand : Skimmed) (protos wanted : ℕ) (l₀ : List ℕ) {l : List ℕ} {k : Skimmed} → protos ≤ 0 → k ≡ stand → l ≡ l₀ → Walked s L left nest stand protos wanted l₀ k l
walked_none s L left nest stand protos wanted l₀ over same spot =
    let all = starts-behind s L nest wanted protos left stand (row_at L s l₀) in
    record {
      shown = ap Ok same ∙ ends all.so_far over;
      found = subst (λ l. Found wanted stand.number (functions_at L s protos left nest stand) (row_at L s l₀) (row_at L s l)) (sym spot) (ends_behind all over);
    }
