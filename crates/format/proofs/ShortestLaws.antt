-- The shortest spelling of a number (`specs/Shortest.antt`).
--     shortest_least       no spelling of the number is shorter
--     shortest_spells      it spells the number
--     shortest-below       it is made of bytes
--     length-shortest      how many bytes it takes: suc m from 128 ^ m to below 128 ^ (suc m)
--     length-bits          so it takes the number's bits divided by 7, rounded up: what the leading zeros of a u64 say
-- Assumes nothing.
use mathlib.Core.Path.{◌≡◌, refl, sym, ◌∙◌, ap, subst}
use mathlib.Core.List.{List, [], ◌∷◌, ◌++◌}
use Prim.Native.Nat.{ℕ, zero, suc, ◌+◌, ◌-◌, ◌*◌, ◌/◌, ◌%◌, ◌^◌, ◌≤◌, ◌<◌, zero-le}
use native.Mathlib.Omega.{arith}
use native.Mathlib.Nat.{mul-le-mul_right, pow-suc, suc-mul, pos_of_ne-zero, pow-le-pow_right, le-div_iff_mul-le, div-lt_iff_lt-mul, le_trans, lt_of_lt_of_le}
use lib.Pow.{pow-add}
use lib.Count.{count_leading_zeros, leading_top}
use lib.Dec.{lit<, lit≤}
use lib.ListN.{length, length-append}
use Rattle.format.specs.Form.{Bytes, Below}
use Rattle.format.specs.GrammarFields.{base128, Number}
use Rattle.format.specs.Shortest.{groups_of, shortest}
use Rattle.format.proofs.Below.{below_join, below_more}

-- ## Groups
base128-end : (xs : List ℕ) (high x : ℕ) → base128 high (xs ++ x ∷ []) ≡ base128 high xs * 128 + x
base128-end [] high x = refl
base128-end (y ∷ xs) high x = base128-end xs (high * 128 + y) x

groups-small : (f n : ℕ) → Below 128 (groups_of f n)
groups-small zero n = tt
groups-small (suc f) zero = tt
groups-small (suc f) (suc n) = below_join 128 (groups_of f (suc n / 128)) (suc n % 128 ∷ []) (groups-small f (suc n / 128)) (omega arith, tt)

groups-value : (f n : ℕ) → n ≤ f → base128 0 (groups_of f n) ≡ n
groups-value zero n h = omega arith
groups-value (suc f) zero h = refl
groups-value (suc f) (suc n) h = rw (base128-end (groups_of f (suc n / 128)) 0 (suc n % 128), groups-value f (suc n / 128) (omega arith)) (omega arith)

-- ## No spelling is shorter
base128_bound : (more : List ℕ) (high : ℕ) → Below 128 more → base128 high more < suc high * 128 ^ length more
base128_bound [] high h = omega arith
base128_bound (x ∷ more) high h =
    let u = base128_bound more (high * 128 + x) h.1 in
    let w : suc (high * 128 + x) * 128 ^ length more ≤ (suc high * 128) * 128 ^ length more = mul-le-mul_right (128 ^ length more) (omega (arith, h.0)) in
    rw (pow-suc 128 (length more)) (omega (arith, u, w))

groups_few : (f n m : ℕ) → n ≤ f → n < 128 ^ m → length (groups_of f n) ≤ m
groups_few zero n m h l = zero-le
groups_few (suc f) zero m h l = zero-le
groups_few (suc f) (suc n) zero h l = absurd (omega arith)
groups_few (suc f) (suc n) (suc m) h l =
    let few = groups_few f (suc n / 128) m (omega arith) (omega arith) in
    rw length-append (omega arith)

pub shortest_least : (at v : ℕ) (bytes : Bytes) → Number at bytes v → length (shortest v) ≤ length bytes
unfolding shortest
shortest_least at v bytes g =
    let b = base128_bound g.more 0 g.small in
    let top : v / 128 ≡ base128 0 g.more = omega (arith, g.value) in
    let few = groups_few v (v / 128) (length g.more) (omega arith) (omega (arith, b, top)) in
    rw g.whole (simp length-append (omega (arith, few)))

-- ## It spells the number
pub shortest_spells : (v at : ℕ) → v < 2 ^ 64 - 128 → Number at (shortest v) v
unfolding shortest
shortest_spells v at h = record {
  more = groups_of v (v / 128);
  last = 128 + v % 128;
  whole = refl;
  small = groups-small v (v / 128);
  closes = omega arith;
  value = rw (groups-value v (v / 128) (omega arith)) (omega arith);
  fits = h;
}

pub shortest-below : (v : ℕ) → Below 256 (shortest v)
unfolding shortest
shortest-below v = below_join 256 (groups_of v (v / 128)) _ (below_more 128 256 (groups_of v (v / 128)) (lit≤ tt) (groups-small v (v / 128))) (omega arith, tt)

-- ## Its length
pub groups_none : (f : ℕ) → groups_of f 0 ≡ []
groups_none zero = refl
groups_none (suc f) = refl

-- a number from 128 ^ (suc m) to below 128 ^ (suc (suc m)), divided by 128
module _ (m v : ℕ) where
  pub div-low : 128 ^ suc m ≤ v → 128 ^ m ≤ v / 128
  div-low lo = (le-div_iff_mul-le (lit< tt)).1 (subst (λ (x : ℕ). x ≤ v) (pow-suc 128 m) lo)

  pub div_high : v < 128 ^ suc m → v / 128 < 128 ^ m
  div_high hi = (div-lt_iff_lt-mul (lit< tt)).1 (subst (λ (x : ℕ). v < x) (pow-suc 128 m) hi)

groups-length : (m f n : ℕ) → n ≤ f → 128 ^ m ≤ n → n < 128 ^ suc m → length (groups_of f n) ≡ suc m
groups-length zero zero n h lo hi = absurd (omega arith)
groups-length zero (suc f) zero h lo hi = absurd (omega arith)
groups-length zero (suc f) (suc n) h lo hi =
    let none : suc n / 128 ≡ 0 = omega arith in
    rw (none, groups_none f)
groups-length (suc m) zero zero h lo hi = let z : 128 ^ m ≤ 0 = div-low m 0 lo in absurd (omega (arith, pow-le-pow_right {n = 128} (lit< tt) {i = 0} {j = m} (omega arith)))
groups-length (suc m) zero (suc n) h lo hi = absurd (omega arith)
groups-length (suc m) (suc f) zero h lo hi = let z : 128 ^ m ≤ 0 = div-low m 0 lo in absurd (omega (arith, pow-le-pow_right {n = 128} (lit< tt) {i = 0} {j = m} (omega arith)))
groups-length (suc m) (suc f) (suc n) h lo hi =
    let e = groups-length m f (suc n / 128) (omega arith) (div-low m (suc n) lo) (div_high (suc m) (suc n) hi) in
    rw length-append (omega arith)

pub length-shortest : (m v : ℕ) → 128 ^ m ≤ v → v < 128 ^ suc m → length (shortest v) ≡ suc m
unfolding shortest
length-shortest zero v lo hi =
    let none : v / 128 ≡ 0 = omega arith in
    rw (none, groups_none v)
length-shortest (suc m) v lo hi =
    let e = groups-length m v (v / 128) (omega arith) (div-low m v lo) (div_high (suc m) v hi) in
    rw length-append (omega arith)

-- a power of 128 is a power of 2
as_two : (m : ℕ) → 128 ^ m ≡ 2 ^ (m * 7)
as_two zero = refl
as_two (suc m) = pow-suc 128 m ∙ ap (λ (x : ℕ). x * 128) (as_two m) ∙ sym (pow-add 2 (m * 7) 7) ∙ ap (λ (x : ℕ). 2 ^ x) (sym (suc-mul m 7))

pub length-bits : (v : ℕ) → (v ≡ 0 → ⊥) → v < 2 ^ 64 → (64 - count_leading_zeros 64 v + 6) / 7 ≡ length (shortest v)
length-bits v some fits = at (leading_top 64 v (pos_of_ne-zero some) fits)
  where
    at : (j : ℕ) × (count_leading_zeros 64 v + suc j ≡ 64) × (2 ^ j ≤ v) × (v < 2 ^ suc j) → (64 - count_leading_zeros 64 v + 6) / 7 ≡ length (shortest v)
    at (j, e, lo, hi) =
        let count : (64 - count_leading_zeros 64 v + 6) / 7 ≡ suc (j / 7) = omega arith in
        let lo' : 128 ^ (j / 7) ≤ v = subst (λ (x : ℕ). x ≤ v) (sym (as_two (j / 7))) (le_trans (pow-le-pow_right {n = 2} (lit< tt) (omega arith)) lo) in
        let hi' : v < 128 ^ suc (j / 7) = subst (λ (x : ℕ). v < x) (sym (as_two (suc (j / 7)))) (lt_of_lt_of_le hi (pow-le-pow_right {n = 2} (lit< tt) (omega arith))) in
        count ∙ sym (length-shortest (j / 7) v lo' hi')

pub length-zero : length (shortest 0) ≡ 1
unfolding shortest
length-zero = refl
