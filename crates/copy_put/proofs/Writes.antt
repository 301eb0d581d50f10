-- Laws of `Put` (`specs/Inner/Put.antt`).
--     put-room, put-none   bytes that have room and are written; bytes that have none
--     put_then             two writers, the second right behind the first
-- Assumes nothing.
use mathlib.Core.Path.{◌≡◌, refl, sym, ◌∙◌, ap}
use mathlib.Core.List.{[], ◌++◌}
use Prim.Native.Nat.{ℕ, ◌+◌, ◌-◌, ◌*◌, ◌/◌, ◌≤◌, ◌<◌}
use native.Mathlib.Nat.{le-div_iff_mul-le}
use native.Mathlib.Omega.{arith}
use lib.ListN.{length, take, drop, length-append, length-drop}
use lib.Seq.{length-take-le}
use Rattle.format.specs.Form.{Bytes}
use Rattle.slice.specs.Inner.Splice.{splice}
use Rattle.slice.proofs.Splices.{splice-none, splice-length, splice_then}
use Rattle.copy_put.specs.Inner.Put.{Put}

module _ {b : Bytes} {at : ℕ} {l : Bytes} {behind : ℕ} where
  pub put-room : {l' : Bytes} → at + length b ≤ length l → behind ≡ at + length b → l' ≡ splice at b l → Put b at l behind l'
  put-room fits e w = record { long = ap length w ∙ splice-length at b l fits; reach = λ _. e; wrote = λ _ _. w }

  pub put-none : length l < at + length b → (at + length b ≤ 4294967296 → behind ≡ at + length b) → Put b at l behind l
  put-none short e = record { long = refl; reach = e; wrote = λ _ fits. absurd (omega arith) }

pub put_nothing : {at : ℕ} {l : Bytes} → Put [] at l at l
put_nothing {at} {l} = record { long = refl; reach = λ _. omega arith; wrote = λ _ _. sym (splice-none at l) }

pub put_then : {a b : Bytes} {at behind after : ℕ} {l l' l'' : Bytes} → Put a at l behind l' → Put b behind l' after l'' → Put (a ++ b) at l after l''
put_then {a} {b} {at} {behind} {after} {l} {l'} {l''} p q = record {
  long = q.long ∙ p.long;
  reach = λ small. let h = size small in let e = p.reach (omega arith) in q.reach (omega arith) ∙ rw (length-append, e) (omega arith);
  wrote = λ small fits.
      let h = size small in
      let k = size fits in
      let e = p.reach (omega arith) in
      let long = p.long in
      q.wrote (omega arith) (omega arith) ∙ (λ i. splice (e i) b (p.wrote (omega arith) (omega arith) i)) ∙ splice_then at a b l (omega arith);
}
  where
    size : {n : ℕ} → at + length (a ++ b) ≤ n → at + length a + length b ≤ n
    size h = omega (arith, simp length-append at h)

-- ## Bytes of a slice s, from `start` on
module _ (s : Bytes) (start len : ℕ) (there : len ≤ length s - start) where
  pub part_length : length (take len (drop start s)) ≡ len
  part_length = length-take-le len (drop start s) (rw length-drop there)

  pub part_none : {at behind : ℕ} {l : Bytes} → length l < at + len → (at + len ≤ 4294967296 → behind ≡ at + len) → Put (take len (drop start s)) at l behind l
  part_none {at} short e = let z = part_length in put-none (omega arith) (λ small. e (omega arith) ∙ omega arith)

  pub part_room : {at : ℕ} {l l' : Bytes} → at + len ≤ length l → l' ≡ splice at (take len (drop start s)) l → Put (take len (drop start s)) at l (at + len) l'
  part_room fits w = let z = part_length in put-room (omega arith) (omega arith) w

-- items of a width, as many as fit into what there is
module _ (count width rest there : ℕ) (some : 0 < width) (same : rest ≡ there) where
  pub too_few : rest / width < count → count * width ≤ there → ⊥
  too_few short h = let k : count ≤ rest / width = (le-div_iff_mul-le some).1 (rw same h) in omega arith

  pub in_there : count ≤ rest / width → count * width ≤ there
  in_there h = rw (← same) ((le-div_iff_mul-le some).0 h)
