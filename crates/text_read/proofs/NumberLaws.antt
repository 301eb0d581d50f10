-- Laws of `spelling`, one digit more, and the end. Assumes nothing.
use Rattle.std.proofs.Common.{◌≡◌, ◌∙◌, ℕ, ◌+◌, ◌*◌, ◌<◌, ◌≤◌, List, Some, None, length, get_or, drop}
use Rattle.std.proofs.Common.{drop-cons, add-one, ap, refl}
use lib.ListN.{drop_of_length-le}
use borrow.Author.Tests.{lt-ltb, le-ltb, le-leb, lt-leb}
use Rattle.text_read.specs.Inner.Numbers.{digit_of, with_digit, spelling}

pub spelling-end : (base most n : ℕ) (s : List ℕ) (i : ℕ) → length s ≤ i
    → spelling base most (Some n) (drop i s) ≡ Some n
unfolding spelling
spelling-end base most n s i h = rw (drop_of_length-le s h)

spelling-none : (base most : ℕ) (s : List ℕ) → spelling base most None s ≡ None
unfolding spelling
spelling-none base most s = refl

-- at a byte
module _ (base most n : ℕ) (s : List ℕ) (i : ℕ) (here : i < length s) where
  one_byte : spelling base most (Some n) (drop i s)
      ≡ spelling base most (with_digit base most n (digit_of (get_or s i 0))) (drop (i + 1) s)
  unfolding spelling
  one_byte = rw (add-one i, drop-cons s i 0)

  stops : with_digit base most n (digit_of (get_or s i 0)) ≡ None → spelling base most (Some n) (drop i s) ≡ None
  stops h = one_byte ∙ ap (λ m. spelling base most m (drop (i + 1) s)) h ∙ spelling-none base most (drop (i + 1) s)

  pub no_digit : digit_of (get_or s i 0) ≡ None → spelling base most (Some n) (drop i s) ≡ None
  no_digit h = stops (ap (with_digit base most n) h)

  -- that is d as a digit
  module _ (d : ℕ) (is : digit_of (get_or s i 0) ≡ Some d) where
    pub above : base ≤ d → spelling base most (Some n) (drop i s) ≡ None
    above h = stops (ap (with_digit base most n) is ∙ rw (le-ltb _ _ h))

    pub too_large : d < base → most < n * base + d → spelling base most (Some n) (drop i s) ≡ None
    too_large h l = stops (ap (with_digit base most n) is ∙ rw (lt-ltb _ _ h, lt-leb _ _ l))

    pub one_digit : d < base → n * base + d ≤ most
        → spelling base most (Some n) (drop i s) ≡ spelling base most (Some (n * base + d)) (drop (i + 1) s)
    one_digit h l = one_byte ∙ ap (λ m. spelling base most m (drop (i + 1) s))
        (ap (with_digit base most n) is ∙ rw (lt-ltb _ _ h, le-leb _ _ l))
