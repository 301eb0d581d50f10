-- Numbers as a request spells them.
--     spelt base most s     the number that s spells in base, where it is at most `most`
use Rattle.std.specs.Prelude.{cond, ℕ, ◌+◌, ◌-◌, ◌*◌, List, [], ◌∷◌, eqb, leb, ltb, length, Option, Some, None}

-- a byte as a digit: `0` to `9`, then `a` to `f`
abbrev pub digit_of : ℕ → Option ℕ
digit_of b = cond (ltb b 48) None
    (cond (ltb b 58) (Some (b - 48)) (cond (ltb b 97) None (cond (ltb b 103) (Some (b - 87)) None)))

-- the digit d behind the number n, where what then stands there is at most `most`
abbrev pub with_digit : ℕ → ℕ → ℕ → Option ℕ → Option ℕ
with_digit base most n None = None
with_digit base most n (Some d) = cond (ltb d base) (cond (leb (n * base + d) most) (Some (n * base + d)) None) None

-- the digits s behind a number
unfoldable pub spelling : ℕ → ℕ → Option ℕ → List ℕ → Option ℕ
spelling base most None s = None
spelling base most (Some n) [] = Some n
spelling base most (Some n) (b ∷ s) = spelling base most (with_digit base most n (digit_of b)) s

abbrev pub spelt : ℕ → ℕ → List ℕ → Option ℕ
spelt base most s = cond (eqb (length s) 0) None (spelling base most (Some 0) s)
