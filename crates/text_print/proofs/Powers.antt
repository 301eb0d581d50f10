-- Powers of ten: how many digits hold a number. Assumes nothing.
use Prim.Native.Nat.{ℕ, zero, suc, ◌+◌, ◌-◌, ◌*◌, ◌/◌, ◌^◌, ◌≤◌, ◌<◌}
use native.Mathlib.Nat.{
  le_of_suc-le-suc,
  one-mul,
  pow-zero,
  pow-suc,
  one-le-pow,
  pow-le-pow_right,
  div-div-eq-div-mul,
  le-div_iff_mul-le,
  div-lt_iff_lt-mul,
  lt_of_not-le,
}
use native.Mathlib.Numerals.{add-one, sub-one}
use native.Mathlib.Omega.{arith}
use mathlib.Core.Logic.{⊎_elim}
use Rattle.std.proofs.lemmas.Bool.{cases_lt}
use mathlib.Core.Path.{◌≡◌, sym, ap, subst, ◌∙◌}
use Rattle.text_print.specs.Digits.{IsDigitCount}

pub div-pow-one : (n b : ℕ) → n / b ≡ n / b ^ 1
div-pow-one n b = ap (λ (d : ℕ). n / d) (sym (pow-suc b 0 ∙ ap (λ (p : ℕ). p * b) (pow-zero b) ∙ one-mul b))

pub div-pow-div : (n b k : ℕ) → n / b ^ k / b ≡ n / b ^ (k + 1)
div-pow-div n b k = div-div-eq-div-mul n (b ^ k) b ∙ ap (λ (d : ℕ). n / d)
    (sym (pow-suc b k) ∙ ap (λ (j : ℕ). b ^ j) (sym (add-one k)))

-- something is left of n after k digits, so one more is wanted
pub pow-le_of_div_pos : (n b k : ℕ) → 0 < b → 0 < n / b ^ k → b ^ (k + 1 - 1) ≤ n
pow-le_of_div_pos n b k h some =
    let e : k ≡ k + 1 - 1 = omega arith in
    let p : 1 * b ^ k ≤ n = (le-div_iff_mul-le (one-le-pow k b h)).0 some in
    subst (λ (j : ℕ). b ^ j ≤ n) e (omega arith)

-- nothing is left of n after k digits, so k digits hold it
pub lt-pow_of_div-zero : (n b k : ℕ) → 0 < b → n / b ^ k < 1 → n < b ^ k
lt-pow_of_div-zero n b k h none =
    let p : n < 1 * b ^ k = (div-lt_iff_lt-mul (one-le-pow k b h)).0 none in
    omega arith

digit_count_not_above : (b width n k most : ℕ) → 0 < b → IsDigitCount b width n k → width ≤ most → n < b ^ most
    → most < k → ⊥
digit_count_not_above b width n k most h fewest within holds over =
    let p : b ^ (k - 1) ≤ n = fewest.2 (omega arith) in
    let q : b ^ most ≤ b ^ (k - 1) = pow-le-pow_right h (omega arith) in
    omega arith

-- where `most` digits hold n, the fewest are no more
pub digit_count_le : (b width n k most : ℕ) → 0 < b → IsDigitCount b width n k → width ≤ most → n < b ^ most → k ≤ most
digit_count_le b width n k most h fewest within holds = le_of_suc-le-suc
    (lt_of_not-le (digit_count_not_above b width n k most h fewest within holds))

-- each number takes some digits: of ten times as many, or fewer, one more
more_digits : (n k : ℕ) → 10 ≤ n → IsDigitCount 10 1 (n / 10) k → IsDigitCount 10 1 n (k + 1)
more_digits n k h f =
    let below : n < 10 ^ k * 10 = (div-lt_iff_lt-mul {k = 10} {x = n} {y = 10 ^ k} (omega arith)).0 f.1 in
    let up : 10 ^ (k + 1) ≡ 10 ^ k * 10 = ap (λ (j : ℕ). 10 ^ j) (add-one k) ∙ pow-suc 10 k in
    let same : k + 1 - 1 ≡ k = omega arith in
    (omega arith, omega arith, λ _. rw same (least k f))
  where
    least : (k : ℕ) → IsDigitCount 10 1 (n / 10) k → 10 ^ k ≤ n
    least zero f = absurd (omega (arith, f.0))
    least (suc zero) f = omega arith
    least (suc (suc k)) f =
        let p : 10 ^ (suc (suc k) - 1) ≤ n / 10 = f.2 (omega arith) in
        let q : 10 ^ suc k ≤ n / 10 = rw (sub-one (suc (suc k))) at p in
        let m : 10 ^ suc k * 10 ≤ n = (le-div_iff_mul-le {k = 10} {x = 10 ^ suc k} {y = n} (omega arith)).0 q in
        rw (pow-suc 10 (suc k)) m

or_more : (n : ℕ) → (places : ℕ) × IsDigitCount 10 1 (n / 10) places → (places : ℕ) × IsDigitCount 10 1 n places
or_more n d = ⊎_elim (λ l. (1, (omega arith, omega arith, omega arith))) (λ l. (d.0 + 1, more_digits n d.0 l d.1))
    (cases_lt n 10)

digits_within : (most n : ℕ) → n ≤ most → (places : ℕ) × IsDigitCount 10 1 n places
digits_within zero n h = (1, (omega arith, omega arith, omega arith))
digits_within (suc most) n h = or_more n (digits_within most (n / 10) (omega arith))

pub some_digits : (n : ℕ) → (places : ℕ) × IsDigitCount 10 1 n places
some_digits n = digits_within n n (omega arith)
