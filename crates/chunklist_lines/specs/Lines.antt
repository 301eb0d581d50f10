-- The lines of a listing (01, 'Calls', last paragraph), in ASCII.
--     decimal n            a number's digits
--     first_line            a chunk that is read
--     refusal_line          one that is not
use Rattle.std.specs.Prelude.{Option, Some, None}
use Rattle.std.specs.Prelude.{cond, ℕ, zero, suc, ◌/◌, ◌%◌, List, [], ◌∷◌, ◌++◌, ltb}
use Rattle.text_print.specs.Digits.{hex_digit_ascii}
use Rattle.format.specs.Ascii.{ascii}
use Rattle.format.specs.declared.refusal.Refusal.{Refusal}
use Rattle.format.specs.Refusals.{reported}
use Rattle.validate_rules.specs.declared.finding.Verdict.{Verdict}
use Rattle.validate_rules.specs.Findings.{verdict_word}

-- n in base 10, without zeros in front, in at most `more` digits and one
unfoldable pub digits_up_to : ℕ → ℕ → List ℕ
digits_up_to zero n = hex_digit_ascii n ∷ []
digits_up_to (suc more) n = cond (ltb n 10) (hex_digit_ascii n ∷ []) (digits_up_to more (n / 10) ++ (hex_digit_ascii (n % 10) ∷ []))

-- (n digits and one are enough)
abbrev pub decimal : ℕ → List ℕ
decimal n = digits_up_to n n

-- a space before each number, and a newline behind the last
abbrev pub spaced : List ℕ → List ℕ
spaced [] = 10 ∷ []
spaced (n ∷ ns) = 32 ∷ (decimal n ++ spaced ns)

-- how long it is, its functions, its trailing bytes and the verdict
unfoldable pub first_line : ℕ → ℕ → ℕ → Verdict → List ℕ
first_line bytes functions trailing v =
    (ascii "chunk " ++ decimal bytes)
    ++ ((ascii " functions " ++ decimal functions)
    ++ ((ascii " trailing " ++ decimal trailing)
    ++ (ascii " verdict "
    ++ (verdict_word v ++ (10 ∷ [])))))

-- a place, where there is one
abbrev pub at_place : Option ℕ → List ℕ
at_place (Some n) = ascii " at " ++ decimal n
at_place None = []

-- the refusal's number, and its place
unfoldable pub refusal_line : Refusal → List ℕ
refusal_line q = (ascii "refused " ++ decimal (reported q).number) ++ (at_place (reported q).place ++ (10 ∷ []))
