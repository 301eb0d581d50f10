-- The words of a line.
--     word_at line at        where the word that begins at a place begins and ends
--     number_at most line at the number there, at most `most`, and where the next word begins
use Rattle.std.specs.Prelude.{ℕ, not, ◌+◌, ◌-◌, cond, List, leb, length, take, drop, Option, Some, None}
use Rattle.std.specs.List.{take_while}
use Rattle.std.specs.Bool.{◌==◌}
use Rattle.text_read.specs.Inner.Numbers.{spelt}

-- how many bytes come before the first space, 32
abbrev pub word_length : List ℕ → ℕ
word_length s = length (take_while (λ b. not (b == 32)) s)

abbrev pub word_at : List ℕ → ℕ → Option (ℕ × ℕ)
word_at line at = cond (leb at (length line)) (Some (at, at + word_length (drop at line))) None

-- the number that a word spells, and the place behind the space behind it
abbrev pub number_then : Option ℕ → ℕ → Option (ℕ × ℕ)
number_then (Some n) next = Some (n, next)
number_then None next = None

abbrev pub number_in : ℕ → List ℕ → Option (ℕ × ℕ) → Option (ℕ × ℕ)
number_in most line (Some (from, to)) = number_then (spelt 10 most (take (to - from) (drop from line))) (to + 1)
number_in most line None = None

abbrev pub number_at : ℕ → List ℕ → ℕ → Option (ℕ × ℕ)
number_at most line at = number_in most line (word_at line at)
