-- What a printer does to its buffer, and what it gives to the writer behind it. Contracts say what waits in the buffer,
-- and what the writer was given.
--     puts s w                        the bytes s are put behind what waits
--     Digits base least front n w w'  the fewest digits of n, at least `least`, are put behind `front`
--     Fits used                       there is room for one byte more
--     Printed old new text bytes r    of the text, what waited and what was put behind it, all but what waits now was
-- given to the writer
use Rattle.std.specs.Prelude.{
  cond,
  ℕ,
  ◌+◌,
  ◌<◌,
  ◌≤◌,
  ◌≡◌,
  List,
  [],
  ◌∷◌,
  ◌++◌,
  ltb,
  set,
  length,
  take,
  Option,
  Result,
  MatchResult,
}
use Rattle.std.specs.Io.KnownBytes.{Appends}
use Rattle.text_print.specs.Digits.{last_digits, IsDigitCount}

-- the length of the buffer
abbrev pub ROOM : ℕ
ROOM = 65536

abbrev pub Fits : ℕ → Type 0
Fits used = used < ROOM

-- the buffer, and how many of its bytes wait
pub record Waiting : Type 0 where
  pub bytes : List ℕ
  pub used : ℕ

abbrev pub waiting : List ℕ → ℕ → Waiting
waiting bytes used = record { bytes = bytes; used = used }

-- one byte more. A buffer that is full is written out, and nothing waits any more
abbrev pub put_of : ℕ → Waiting → Waiting
put_of b w = waiting (set w.bytes w.used b) (cond (ltb (w.used + 1) ROOM) (w.used + 1) 0)

unfoldable pub puts : List ℕ → Waiting → Waiting
puts [] w = w
puts (b ∷ s) w = puts s (put_of b w)

pub record Digits (base least : ℕ) (front : List ℕ) (n : ℕ) (w w' : Waiting) : Type 0 where
  pub places : ℕ
  pub fewest : IsDigitCount base least n places
  pub written : w' ≡ puts (front ++ last_digits base places n) w

-- ## The writer: `old` and `new` are the bytes that it holds, where they are known (std's `contents`)
-- it was given all of the text but the rest
pub record Gives (old new : Option (List ℕ)) (text rest : List ℕ) : Type 0 where
  pub given : List ℕ
  pub appended : Appends old new given
  pub whole : given ++ rest ≡ text

-- it failed, and was given a front of the text
pub record Cut (old new : Option (List ℕ)) (text : List ℕ) : Type 0 where
  pub lost : List ℕ
  pub front : Gives old new text lost

-- it was given the text, or failed
abbrev pub Written : {V E : Type 0} → Option (List ℕ) → Option (List ℕ) → List ℕ → Result V E → Type 0
Written old new text r = MatchResult r (λ _. Appends old new text) (λ _. Cut old new text)

-- it was asked for more than the buffer holds, and failed
pub record Full (old new : Option (List ℕ)) (text : List ℕ) : Type 0 where
  pub cut : Cut old new text
  pub much : ROOM ≤ length text

-- a printer's answer r is how many bytes of the buffer wait, and they are the rest of the text; or the writer failed
abbrev pub Printed : {E : Type 0} → Option (List ℕ) → Option (List ℕ) → List ℕ → List ℕ → Result ℕ E → Type 0
Printed old new text bytes r = MatchResult r (λ used. Gives old new text (take used bytes)) (λ _. Full old new text)
