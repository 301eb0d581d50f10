-- Laws of what is put into the buffer: two texts one behind the other, a number's digits, numbers in a line.
-- Assumes nothing.
use mathlib.Core.Path.{◌≡◌, refl, sym, ap, subst, ◌∙◌}
use mathlib.Core.List.{List, [], ◌∷◌, ◌++◌}
use Prim.Native.Nat.{ℕ, zero, suc, ◌+◌, ◌/◌, ◌%◌, ◌^◌, ◌<◌, ◌≤◌}
use native.Mathlib.Nat.{pow-suc, one-le-pow, div-lt_iff_lt-mul, le-div_iff_mul-le}
use native.Mathlib.Numerals.{add-one, sub-one}
use native.Mathlib.Omega.{arith}
use borrow.Author.Tests.{lt-ltb, le-ltb}
use lib.ListN.{length, get_or, drop, drop_of_length-le}
use lib.Seq.{drop-cons}
use Rattle.text_print.specs.Digits.{hex_digit_ascii, last_digits, IsDigitCount}
use Rattle.std.specs.Prelude.{Option, Result, IfOk}
use Rattle.std.proofs.lemmas.Result.{IfOk-weaker}
use Rattle.text_print.specs.Output.{Waiting, waiting, put_of, puts, Digits, Gives, Full, Printed}
use Rattle.format.specs.declared.refusal.Refusal.{Refusal}
use Rattle.format.specs.declared.refusal.Report.{Report}
use Rattle.format.specs.Refusals.{reported}
use Rattle.validate_rules.specs.declared.finding.Verdict.{Verdict}
use Rattle.format.specs.Ascii.{ascii}
use Rattle.validate_rules.specs.Findings.{verdict_word}
use Rattle.chunklist_lines.specs.Lines.{digits_up_to, decimal, spaced, first_line, at_place, refusal_line}

-- ## One behind the other
pub puts-append : (a b : List ℕ) (w : Waiting) → puts (a ++ b) w ≡ puts b (puts a w)
unfolding puts
puts-append [] b w = refl
puts-append (x ∷ a) b w = puts-append a b (put_of x w)

pub then : (a b : List ℕ) (w : Waiting) {w₁ w₂ : Waiting} → w₁ ≡ puts a w → w₂ ≡ puts b w₁ → w₂ ≡ puts (a ++ b) w
then a b w e f = f ∙ ap (puts b) e ∙ sym (puts-append a b w)

-- the last part, which is put where the call succeeds
pub then_ok : {E : Type 0} (a b : List ℕ) (w : Waiting) {w₁ : Waiting} (out : List ℕ) (r : Result ℕ E) → w₁ ≡ puts a w
    → IfOk r (λ after. waiting out after ≡ puts b w₁) → IfOk r (λ after. waiting out after ≡ puts (a ++ b) w)
then_ok a b w out r e = IfOk-weaker r _ _ (λ after f. then a b w e f)

pub nothing : (w : Waiting) → w ≡ puts [] w
unfolding puts
nothing w = refl

-- ## The digits of a number
below_ten : (n more : ℕ) → n < 10 → digits_up_to more n ≡ hex_digit_ascii n ∷ []
unfolding digits_up_to
below_ten n zero h = refl
below_ten n (suc more) h = rw (lt-ltb n 10 h)

ten_up : (k n : ℕ) → 10 ^ suc k ≤ n → 10 ≤ n
ten_up k n h = let p = pow-suc 10 k in let q = one-le-pow k 10 (omega arith) in omega arith

digits_are : (k n more : ℕ) → n ≤ more → IsDigitCount 10 1 n k → last_digits 10 k n ≡ digits_up_to more n
unfolding digits_up_to
digits_are zero n more h f = absurd (omega (arith, f.0))
digits_are (suc zero) n more h f =
    let small : n < 10 = omega (arith, f.1) in
    let same : n % 10 ≡ n = omega arith in
    rw same (sym (below_ten n more small))
digits_are (suc (suc k)) n zero h f = absurd
    (omega (arith, ten_up k n (rw (sub-one (suc (suc k))) at (f.2 (omega arith)))))
digits_are (suc (suc k)) n (suc more) h f =
    let least : 10 ^ suc k ≤ n = rw (sub-one (suc (suc k))) at (f.2 (omega arith)) in
    let up = ten_up k n least in
    let fewer : n / 10 < 10 ^ suc k = (div-lt_iff_lt-mul {k = 10} {x = n} {y = 10 ^ suc k} (omega arith)).1
    (rw (pow-suc 10 (suc k)) at f.1) in
    let more-than : 10 ^ k ≤ n / 10 = (le-div_iff_mul-le {k = 10} {x = 10 ^ k} {y = n} (omega arith)).1
    (rw (pow-suc 10 k) at least) in
    rw (le-ltb n 10 up)
    (ap (λ l. l ++ (hex_digit_ascii (n % 10) ∷ []))
    (digits_are (suc k) (n / 10) more (omega arith) (omega arith, fewer, λ _. rw (sub-one (suc k)) more-than)))

pub digits_put : (n : ℕ) {w w₁ : Waiting} → Digits 10 1 [] n w w₁ → w₁ ≡ puts (decimal n) w
digits_put n {w} d = d.written ∙ ap (λ l. puts l w) (digits_are d.places n n (omega arith) d.fewest)

pub digits_put_ok : {E : Type 0} (n : ℕ) (w : Waiting) (out : List ℕ) (r : Result ℕ E) → IfOk r
    (λ after. Digits 10 1 [] n w (waiting out after)) → IfOk r (λ after. waiting out after ≡ puts (decimal n) w)
digits_put_ok n w out r = IfOk-weaker r _ _ (λ after d. digits_put n d)

-- what was given for a number
pub decimal_gives : (o n : Option (List ℕ)) (waits left : List ℕ) (x : ℕ) →
    ((places : ℕ) × IsDigitCount 10 1 x places × Gives o n (waits ++ last_digits 10 places x) left) → Gives o n
    (waits ++ decimal x) left
decimal_gives o n waits left x h = subst (λ l. Gives o n (waits ++ l) left) (digits_are h.0 x x (omega arith) h.1) h.2

pub decimal_given : {E : Type 0} (o n : Option (List ℕ)) (waits bytes : List ℕ) (x : ℕ) (r : Result ℕ E) →
    ((places : ℕ) × IsDigitCount 10 1 x places × Printed o n (waits ++ last_digits 10 places x) bytes r) → Printed o n
    (waits ++ decimal x) bytes r
decimal_given o n waits bytes x r h = subst (λ l. Printed o n (waits ++ l) bytes r)
    (digits_are h.0 x x (omega arith) h.1) h.2

pub decimal_full : (o n : Option (List ℕ)) (waits : List ℕ) (x : ℕ) →
    ((places : ℕ) × IsDigitCount 10 1 x places × Full o n (waits ++ last_digits 10 places x)) → Full o n
    (waits ++ decimal x)
decimal_full o n waits x h = subst (λ l. Full o n (waits ++ l)) (digits_are h.0 x x (omega arith) h.1) h.2

-- ## Numbers in a line
module _ (ns : List ℕ) (i : ℕ) where
  pub one_left : i < length ns → spaced (drop i ns) ≡ (32 ∷ decimal (get_or ns i 0)) ++ spaced (drop (i + 1) ns)
  one_left h = rw (add-one i, drop-cons ns i 0)

  pub none_left : length ns ≤ i → spaced (drop i ns) ≡ 10 ∷ []
  none_left h = rw (drop_of_length-le ns h)

module _ (ns : List ℕ) (i : ℕ) (w : Waiting) where
  pub spaced-one : i < length ns → puts (spaced (drop i ns)) w ≡ puts (spaced (drop (i + 1) ns))
      (puts (32 ∷ decimal (get_or ns i 0)) w)
  spaced-one h = rw (add-one i, drop-cons ns i 0)
      (puts-append (32 ∷ decimal (get_or ns i 0)) (spaced (drop (suc i) ns)) w)

  pub spaced-end : length ns ≤ i → puts (spaced (drop i ns)) w ≡ puts (10 ∷ []) w
  spaced-end h = rw (drop_of_length-le ns h)

-- the numbers behind the first, of which none is left to put but the newline
pub spaced_ok : {E : Type 0} (first : ℕ) (ns : List ℕ) (i : ℕ) (w w₁ w₂ : Waiting) (out : List ℕ) (r : Result ℕ E)
    → length ns ≤ i → w₁ ≡ puts (decimal first) w → puts (spaced (drop i ns)) w₂ ≡ puts (spaced ns) w₁
    → IfOk r (λ after. waiting out after ≡ puts (10 ∷ []) w₂) → IfOk r
    (λ after. waiting out after ≡ puts (decimal first ++ spaced ns) w)
spaced_ok first ns i w w₁ w₂ out r h e l f = then_ok (decimal first) (spaced ns) w out r e
    (IfOk-weaker r _ _ (λ after n. n ∙ sym (spaced-end ns i w₂ h) ∙ l) f)

-- ## Lines
-- the line of a refusal, by its report
abbrev pub line_of : Report → List ℕ
line_of r = (ascii "refused " ++ decimal r.number) ++ (at_place r.place ++ (10 ∷ []))

pub line_is : (q : Refusal) (r : Report) → r ≡ reported q → line_of r ≡ refusal_line q
unfolding refusal_line
line_is q r e = ap line_of e

module _ (w : Waiting) {w₁ w₂ w₃ : Waiting} where
  pub refusal-put : (q : Refusal) → w₁ ≡ puts (ascii "refused " ++ decimal (reported q).number) w → w₂ ≡ puts
      (at_place (reported q).place) w₁ → w₃ ≡ puts (10 ∷ []) w₂ → w₃ ≡ puts (refusal_line q) w
  unfolding refusal_line
  refusal-put q e f g = then _ (at_place (reported q).place ++ (10 ∷ [])) w e
      (then (at_place (reported q).place) (10 ∷ []) w₁ f g)

  module _ {w₄ w₅ w₆ : Waiting} (bytes functions trailing : ℕ) (v : Verdict) where
    pub first_put : w₁ ≡ puts (ascii "chunk " ++ decimal bytes) w → w₂ ≡ puts
        (ascii " functions " ++ decimal functions) w₁ → w₃ ≡ puts (ascii " trailing " ++ decimal trailing) w₂
        → w₄ ≡ puts (ascii " verdict ") w₃ → w₅ ≡ puts (verdict_word v) w₄ → w₆ ≡ puts (10 ∷ []) w₅ → w₆ ≡ puts
        (first_line bytes functions trailing v) w
    unfolding first_line
    first_put a b c d e f = then (ascii "chunk " ++ decimal bytes) _ w a
        (then (ascii " functions " ++ decimal functions) _ w₁ b
        (then (ascii " trailing " ++ decimal trailing) _ w₂ c
        (then (ascii " verdict ") _ w₃ d (then (verdict_word v) _ w₄ e f))))
