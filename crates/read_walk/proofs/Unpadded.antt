-- The place behind the zero groups of a number.
--     zeros-end, zeros-over, zeros-on  the zeros from a place on: none at the end of the slice, none before another byte, one more before the next place
--     unpadded_first                   no zero group stands there
--     unpadded_source                  a string is read there as before them: the same bytes at the same place
-- Assumes nothing.
use mathlib.Core.Path.{◌≡◌, refl, sym, ◌∙◌, ap}
use mathlib.Core.Bool.{Bool, true, false}
use mathlib.Core.List.{[], ◌∷◌}
use mathlib.Core.Logic.{◌≢◌}
use Prim.Native.Nat.{ℕ, zero, suc, ◌+◌, ◌≤◌, ◌<◌}
use native.Mathlib.Omega.{arith}
use native.Mathlib.Numerals.{add-one}
use native.Mathlib.Nat.{add-zero}
use lib.Dec.{eqb, leb}
use borrow.Author.Tests.{eqb-true, eqb-false, ne_eqb}
use lib.ListN.{length, drop, get_or, length-drop, drop_of_length-le}
use lib.Seq.{drop-cons, drop-drop, get_or-drop}
use Rattle.format.specs.Form.{Bytes}
use Rattle.format.specs.Read.{Read, ok, refused, next}
use Rattle.format.specs.ReadFields.{number, content, string}
use Rattle.read_walk.specs.Inner.Source.{spelt, source_at, zeros, unpadded_at}

module _ (s : Bytes) (at : ℕ) where
  pub zeros-end : length s ≤ at → at ≡ unpadded_at s at
  zeros-end h = rw (drop_of_length-le s h) (sym (add-zero at))

  module _ (h : at < length s) where
    pub zeros-over : get_or s at 0 ≢ 0 → at ≡ unpadded_at s at
    zeros-over n = rw (drop-cons s at 0 h, ne_eqb (get_or s at 0) 0 n) (sym (add-zero at))

    pub zeros-on : get_or s at 0 ≡ 0 → unpadded_at s at ≡ unpadded_at s (at + 1)
    zeros-on e =
        let more : at + (zeros (drop (suc at) s) + 1) ≡ suc at + zeros (drop (suc at) s) = omega arith in
        let step : suc at ≡ at + 1 = omega arith in
        ap (λ b. at + zeros b) (drop-cons s at 0 h ∙ ap (λ x. x ∷ drop (suc at) s) e) ∙ more ∙ ap (unpadded_at s) step

-- no zero group is left: what stands there is none, or it is the end of the slice. (Of a place that is any nearer, all else here would hold too.)
zeros-all : (s : Bytes) → zeros s < length s → get_or s (zeros s) 0 ≢ 0
zeros-all [] h = absurd (omega arith)
zeros-all (x ∷ s) h = by (eqb x 0) refl (zeros-all s)
  where
    by : (t : Bool) → eqb x 0 ≡ t → (zeros s < length s → get_or s (zeros s) 0 ≢ 0) → get_or (x ∷ s) (zeros (x ∷ s)) 0 ≢ 0
    by true e rest =
        let more : zeros (x ∷ s) ≡ suc (zeros s) = rw (e, add-one) refl in
        rw more (rest (omega (arith, h, more)))
    by false e rest = rw e (eqb-false x 0 e)

pub unpadded_first : (s : Bytes) (at : ℕ) → unpadded_at s at < length s → get_or s (unpadded_at s at) 0 ≢ 0
unpadded_first s at h =
    let size = length-drop at s in
    let there = zeros-all (drop at s) (omega (arith, h, size)) in
    λ e. there (get_or-drop at s (zeros (drop at s)) 0 ∙ e)

-- the place of a size matters to a refusal alone
any_first : (limit a b : ℕ) (o : Read ℕ) → spelt (next o (content limit a)) ≡ spelt (next o (content limit b))
any_first limit a b (refused q) = refl
any_first limit a b (ok zero to rest) = refl
any_first limit a b (ok (suc n) to rest) = by (leb n limit) refl
  where
    by : (t : Bool) → leb n limit ≡ t → spelt (content limit a (suc n) to rest) ≡ spelt (content limit b (suc n) to rest)
    by true e = rw e
    by false e = rw e

behind : (limit : ℕ) (s : Bytes) (at : ℕ) → spelt (string limit (at + zeros s) (drop (zeros s) s)) ≡ spelt (string limit at s)
behind limit [] at = ap (λ a. spelt (string limit a [])) (add-zero at)
behind limit (x ∷ s) at = by (eqb x 0) refl (behind limit s (at + 1))
  where
    by : (t : Bool) → eqb x 0 ≡ t → spelt (string limit (at + 1 + zeros s) (drop (zeros s) s)) ≡ spelt (string limit (at + 1) s) → spelt (string limit (at + zeros (x ∷ s)) (drop (zeros (x ∷ s)) (x ∷ s))) ≡ spelt (string limit at (x ∷ s))
    by true e so =
        let zero-byte : x ≡ 0 = eqb-true x 0 e in
        let on : at + suc (zeros s) ≡ at + 1 + zeros s = omega arith in
        rw (e, add-one) (ap (λ a. spelt (string limit a (drop (zeros s) s))) on ∙ so ∙ rw zero-byte (any_first limit (at + 1) at (number (at + 1) s)))
    by false e so = rw (e, add-zero at)

pub unpadded_source : (limit : ℕ) (s : Bytes) (at : ℕ) → source_at limit s (unpadded_at s at) ≡ source_at limit s at
unpadded_source limit s at = ap (λ b. spelt (string limit (unpadded_at s at) b)) (sym (drop-drop (zeros (drop at s)) at s)) ∙ behind limit (drop at s) at
