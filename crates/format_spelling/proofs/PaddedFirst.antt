-- A number is padded exactly where its first byte is 0, and where it is not padded it is the shortest spelling itself.
--     padded_first         by its first byte
--     shortest_only        a spelling as short as the shortest is the shortest
-- Assumes nothing.
use mathlib.Core.Path.{◌≡◌, refl, sym, ◌∙◌, ap, ap₂}
use mathlib.Core.Bool.{cond}
use mathlib.Core.List.{List, [], ◌∷◌, ◌++◌}
use Prim.Native.Nat.{ℕ, zero, suc, ◌+◌, ◌-◌, ◌*◌, ◌%◌, ◌^◌, ◌≤◌, ◌<◌}
use native.Mathlib.Omega.{arith}
use native.Mathlib.Nat.{zero-add, mul-le-mul_right, pow-suc}
use lib.Dec.{ltb}
use borrow.Author.Tests.{lt-ltb, le-ltb, ne_eqb}
use lib.ListN.{length, length-append}
use Rattle.format.specs.Form.{Bytes, Below}
use Rattle.format.specs.GrammarFields.{base128, Number}
use Rattle.format.specs.Shortest.{shortest}
use Rattle.format_spelling.specs.ReadSpelling as count
use Rattle.format.proofs.Below.{below_split}
use Rattle.format.proofs.ShortestLaws.{shortest_spells, shortest-below, shortest_least, length-shortest}

base128-low : (more : List ℕ) (high : ℕ) → high * 128 ^ length more ≤ base128 high more
base128-low [] high = omega arith
base128-low (x ∷ more) high =
    let low = base128-low more (high * 128 + x) in
    let w : high * 128 * 128 ^ length more ≤ (high * 128 + x) * 128 ^ length more = mul-le-mul_right (128 ^ length more) (omega arith) in
    rw (pow-suc 128 (length more)) (omega (arith, low, w))

base128_high : (more : List ℕ) (high : ℕ) → Below 128 more → base128 high more < suc high * 128 ^ length more
base128_high [] high h = omega arith
base128_high (x ∷ more) high h =
    let u = base128_high more (high * 128 + x) h.1 in
    let w : suc (high * 128 + x) * 128 ^ length more ≤ (suc high * 128) * 128 ^ length more = mul-le-mul_right (128 ^ length more) (omega (arith, h.0)) in
    rw (pow-suc 128 (length more)) (omega (arith, u, w))

abbrev pub longer : ℕ → Bytes → ℕ
longer v bytes = cond (ltb (length (shortest v)) (length bytes)) 1 0

some : (v : ℕ) → 1 ≤ length (shortest v)
unfolding shortest
some v = rw length-append (omega arith)

module _ (last v : ℕ) (closes : 128 ≤ last) (fits : v < 2 ^ 64 - 128) where
  from_first : (at : ℕ) (more rest : List ℕ) → Below 128 more → v ≡ base128 0 more * 128 + last % 128 → cond (count.is_padded ((more ++ last ∷ []) ++ rest)) 1 0 ≡ longer v (more ++ last ∷ [])
  from_first at [] rest small value = rw (ne_eqb last 0 (λ z. omega (arith, z)), le-ltb (length (shortest v)) 1 (some v))
  from_first at (zero ∷ more) rest small value =
      let d : Number at (more ++ last ∷ []) v = record { more = more; last = last; whole = refl; small = small.1; closes = closes; value = value; fits = fits } in
      let short = shortest_least at v (more ++ last ∷ []) d in
      sym (ap (λ b. cond b 1 0) (lt-ltb (length (shortest v)) (length (zero ∷ more ++ last ∷ [])) (omega (arith, short))))
  from_first at (suc n ∷ more) rest small value =
      let is : v ≡ base128 (suc n) more * 128 + last % 128 = value ∙ ap (λ k. base128 k more * 128 + last % 128) (zero-add (suc n)) in
      let low = base128-low more (suc n) in
      let high : base128 (suc n) more < 1 * 128 ^ suc (length more) = rw (zero-add (suc n)) at (base128_high (suc n ∷ more) 0 small) in
      let least : 128 ^ length more ≤ suc n * 128 ^ length more = omega arith in
      let lo : 128 ^ suc (length more) ≤ v = rw (pow-suc 128 (length more)) (omega (arith, low, least, value)) in
      let hi : v < 128 ^ suc (suc (length more)) = rw (pow-suc 128 (suc (length more))) (omega (arith, high, value)) in
      let size = length-shortest (suc (length more)) v lo hi in
      let long : length (suc n ∷ more ++ last ∷ []) ≡ suc (suc (length more)) = rw length-append (omega arith) in
      ap (λ b. cond b 1 0) (ne_eqb (suc n) 0 (λ z. omega (arith, z)) ∙ sym (le-ltb (length (shortest v)) (length (suc n ∷ more ++ last ∷ [])) (omega (arith, size, long))))

pub padded_first : (at : ℕ) (bytes : Bytes) (v : ℕ) (rest : Bytes) → Number at bytes v → cond (count.is_padded (bytes ++ rest)) 1 0 ≡ longer v bytes
padded_first at bytes v rest d = rw d.whole (from_first d.last v d.closes d.fits at d.more rest d.small d.value)

-- and where it is not padded it is the shortest spelling itself
same-groups : (xs ys : List ℕ) (a b : ℕ) → length xs ≡ length ys → Below 128 xs → Below 128 ys → base128 a xs ≡ base128 b ys → (a ≡ b) × (xs ≡ ys)
same-groups [] [] a b l h k e = (e, refl)
same-groups [] (y ∷ ys) a b l h k e = absurd (omega (arith, l))
same-groups (x ∷ xs) [] a b l h k e = absurd (omega (arith, l))
same-groups (x ∷ xs) (y ∷ ys) a b l h k e =
    let rest = same-groups xs ys (a * 128 + x) (b * 128 + y) (omega (arith, l)) h.1 k.1 e in
    let first : x ≡ y = omega (arith, rest.0, h.0, k.0) in
    (omega (arith, rest.0, h.0, k.0), ap₂ ◌∷◌ first rest.1)

pub shortest_only : (at v : ℕ) (bytes : Bytes) → Below 256 bytes → Number at bytes v → length bytes ≡ length (shortest v) → bytes ≡ shortest v
shortest_only at v bytes below d size =
    let s = shortest_spells v at d.fits in
    let here : length bytes ≡ length d.more + 1 = ap length d.whole ∙ length-append d.more (d.last ∷ []) in
    let there : length (shortest v) ≡ length s.more + 1 = ap length s.whole ∙ length-append s.more (s.last ∷ []) in
    let high : base128 0 d.more ≡ base128 0 s.more = omega (arith, d.value, s.value) in
    let low : d.last % 128 ≡ s.last % 128 = omega (arith, d.value, s.value) in
    let one = (below_split 256 d.more (d.last ∷ []) (rw d.whole at below)).1.0 in
    let two = (below_split 256 s.more (s.last ∷ []) (rw s.whole at (shortest-below v))).1.0 in
    let last : d.last ≡ s.last = omega (arith, low, one, two, d.closes, s.closes) in
    let more = (same-groups d.more s.more 0 0 (omega (arith, size, here, there)) d.small s.small high).1 in
    d.whole ∙ ap₂ (λ l x. l ++ x ∷ []) more last ∙ sym s.whole
