-- The loops over the entries of a list.
--     Goes         the invariant: whoever puts the entries left from here has put them all
--     starts, turns, ends      before the first entry; behind an entry; where none is left, with the count before them
-- Assumes nothing.
use mathlib.Core.Path.{◌≡◌, refl, sym, subst, ◌∙◌, ap}
use mathlib.Core.List.{List, [], ◌∷◌, map, flatten}
use Prim.Native.Nat.{ℕ, suc, ◌≤◌}
use native.Mathlib.Omega.{arith}
use lib.ListN.{length, drop}
use Rattle.format.specs.Form.{Bytes, Form}
use Rattle.format.specs.Read.{Read, ok, refused, Reader, next, give, many}
use Rattle.format.specs.Shortest.{shortest}
use Rattle.format.specs.Copy.{list_bytes}
use Rattle.format.proofs.Exact.{Exact, never}
use Rattle.format.proofs.Left.{left}
use Rattle.read_list.proofs.Listing.{many_sized}
use Rattle.copy_put.specs.Inner.Put.{Put, Puts, PutsAll}
use Rattle.copy_put.proofs.Writes.{put_nothing, put_then}

-- entries without their count
pub record Gives {A : Type 0} (bytes : A → Bytes) (o : Read (List A)) (at : ℕ) (l : Bytes) (behind : ℕ) (l' : Bytes) : Type 0 where
  pub put : (xs : List A) (to : ℕ) (rest : Bytes) → o ≡ ok xs to rest → Put (flatten (map bytes xs)) at l behind l'

pub record Goes {A : Type 0} (r : Reader A) (bytes : A → Bytes) (s : Bytes) (count place at₀ : ℕ) (l₀ : Bytes) (left from at : ℕ) (l : Bytes) : Type 0 where
  pub goes : {behind : ℕ} {l' : Bytes} → Gives bytes (many left r from (drop from s)) at l behind l' → Gives bytes (many count r place (drop place s)) at₀ l₀ behind l'

module _ {A : Type 0} (r : Reader A) {F : Form A} (bytes : A → Bytes) (exact : Exact r F) (s : Bytes) where
  pub starts : {count place at left : ℕ} {l : Bytes} → left ≡ count → Goes r bytes s count place at l left place at l
  starts {count} {place} {at} {left} {l} all = subst (λ left. Goes r bytes s count place at l left place at l) (sym all) (record { goes = λ g. g })

  more-put : (n from at : ℕ) (l : Bytes) (to at' : ℕ) (l' : Bytes) {behind : ℕ} {l'' : Bytes} → Puts bytes (r from (drop from s)) at l to at' l' → Gives bytes (many n r to (drop to s)) at' l' behind l'' → Gives bytes (many (suc n) r from (drop from s)) at l behind l''
  unfolding flatten
  more-put n from at l to at' l' {behind} {l''} p g = record { put = λ xs up rest e. first xs up rest (r from (drop from s)) refl e }
    where
      second : (x : A) (mid : ℕ) (t : Bytes) (xs : List A) (up : ℕ) (rest : Bytes) → r from (drop from s) ≡ ok x mid t → (o : Read (List A)) → many n r mid t ≡ o → next o (λ ys. give (x ∷ ys)) ≡ ok xs up rest
          → Put (flatten (map bytes xs)) at l behind l''
      second x mid t xs up rest e₁ (ok ys to₂ rest₂) e₂ e =
          let one = p.put x mid t e₁ in
          let all : x ∷ ys ≡ xs = cc in
          let here : drop to s ≡ t = ap (λ k. drop k s) one.0 ∙ sym (left exact s from e₁) in
          rw (← all) (put_then one.1 (g.put ys to₂ rest₂ ((λ i. many n r (one.0 i) (here i)) ∙ e₂)))
      second x mid t xs up rest e₁ (refused q) e₂ e = absurd (never e)

      first : (xs : List A) (up : ℕ) (rest : Bytes) (o : Read A) → r from (drop from s) ≡ o → next o (λ x at s. next (many n r at s) (λ ys. give (x ∷ ys))) ≡ ok xs up rest → Put (flatten (map bytes xs)) at l behind l''
      first xs up rest (ok x mid t) e₁ e = second x mid t xs up rest e₁ (many n r mid t) refl e
      first xs up rest (refused q) e₁ e = absurd (never e)

  module _ {count place at₀ : ℕ} {l₀ : Bytes} {left from at : ℕ} {l : Bytes} (k : Goes r bytes s count place at₀ l₀ left from at l) where
    pub turns : {fewer to at' : ℕ} {l' : Bytes} → left ≡ suc fewer → Puts bytes (r from (drop from s)) at l to at' l' → Goes r bytes s count place at₀ l₀ fewer to at' l'
    turns {fewer} {to} {at'} {l'} one p = record {
      goes = λ {behind} {l' = l''} g.
          k.goes (subst (λ n. Gives bytes (many n r from (drop from s)) at l behind l'') (sym one) (more-put fewer from at l to at' l' p g));
    }

    pub ends : {before : ℕ} {old : Bytes} → Put (shortest count) before old at₀ l₀ → left ≤ 0 → PutsAll bytes (many count r place (drop place s)) before old at l
    unfolding list_bytes flatten
    ends p none = record {
      put = λ xs to rest e.
          let size : length xs ≡ count = (many_sized exact count).size place (drop place s) e in
          put_then {a = shortest (length xs)} (rw size p) ((k.goes (last (let z : left ≡ 0 = omega arith in z))).put xs to rest e);
    }
      where
        last : left ≡ 0 → Gives bytes (many left r from (drop from s)) at l at l
        last z = rw z (record { put = λ xs to rest e. let none : [] ≡ xs = cc in rw (← none) put_nothing })
