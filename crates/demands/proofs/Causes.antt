-- What each refusal of a file is about, by 01's number: a part of the file's bytes, and what is wrong with it. There is no reader in this file.
--     cause_by of L q   of a refusal under limits, in the ordinary or in the stricter reading (02, item 7); cause_of L q: in the ordinary one
--     Ends c at front  that part ends where `front`, which begins at the place `at`, ends; and it is as the cause says
use Rattle.std.specs.Prelude.{Option, Some, None}
use mathlib.Core.Path.{◌≡◌}
use mathlib.Core.Bool.{cond}
use mathlib.Core.List.{List, [], ◌∷◌, ◌++◌}
use Prim.Native.Nat.{ℕ, ◌+◌, ◌-◌, ◌≤◌, ◌<◌, ◌^◌}
use lib.Dec.{eqb}
use lib.ListN.{length}
use Rattle.format.specs.declared.limits.ResourceLimits.{ResourceLimits}
use Rattle.format.specs.declared.refusal.Refusal.{Refusal}
use Rattle.format.specs.Refusals.{reported}
use Rattle.format.specs.Form.{Bytes, Below}
use Rattle.format.specs.GrammarFields.{base128, Number}
use Rattle.format.specs.GrammarHeader.{signature, luac_data, luac_int, luac_num}

-- ## Which reading
pub data Which : Type 0 where
  ordinary : Which
  stricter : Which

-- ## Kinds of causes
--     unlike place bytes   as many bytes from the place on are not these
--     no_tag place          the byte there is no constant's tag
--     above place limit    the number that begins there is above the limit
--     between place limit top  the number that begins there is above the limit and below the top
--     up_to place limit     the number that begins there is not above the limit
--     enters place         a nested function begins there: no byte of it is looked at
--     too_large_lem             a number is too large
--     missing              bytes are missing: the whole file is looked at
pub data Cause : Type 0 where
  unlike : ℕ → Bytes → Cause
  no_tag : ℕ → Cause
  above : ℕ → ℕ → Cause
  between : ℕ → ℕ → ℕ → Cause
  up_to : ℕ → ℕ → Cause
  enters : ℕ → Cause
  too_large_lem : Cause
  missing : Cause

-- a count is above its limit; in the stricter reading it is an int, or it were 32
abbrev pub too_many_lem : Which → ℕ → ℕ → Cause
too_many_lem ordinary at limit = above at limit
too_many_lem stricter at limit = between at limit (2 ^ 31 - 128)

-- by 01's number, at a place (01, 'Who can cause a refusal' and 'header.rs'; 31 to 33: 02, item 7). 13: a size is one more than the content's length. 15: the count itself is not above its own limit, or it were 14 (that the sum is above the other is not said here: AtOneByte.antt, `fifteen_next`)
abbrev pub by_number_lem : Which → ResourceLimits → ℕ → ℕ → Cause
by_number_lem of L n at =
    cond (eqb n 3) too_large_lem
    (cond (eqb n 4) (unlike at signature)
    (cond (eqb n 5) (unlike at (0x54 ∷ []))
    (cond (eqb n 6) (unlike at luac_data)
    (cond (eqb n 7) (unlike at (4 ∷ []))
    (cond (eqb n 8) (unlike at (8 ∷ []))
    (cond (eqb n 9) (unlike at (8 ∷ []))
    (cond (eqb n 10) (unlike at luac_int)
    (cond (eqb n 11) (unlike at luac_num)
    (cond (eqb n 12) (no_tag at)
    (cond (eqb n 13) (above at (L.max_string_bytes + 1))
    (cond (eqb n 14) (too_many_lem of at L.max_instructions_per_proto)
    (cond (eqb n 15) (up_to at L.max_instructions_per_proto)
    (cond (eqb n 16) (too_many_lem of at L.max_constants_per_proto)
    (cond (eqb n 17) (too_many_lem of at L.max_upvalues_per_proto)
    (cond (eqb n 18) (too_many_lem of at L.max_total_prototypes)
    (cond (eqb n 19) (enters at)
    (cond (eqb n 20) (enters at)
    (cond (eqb n 31) (unlike at (0 ∷ []))
    (cond (eqb n 32) (above at (2 ^ 31 - 129))
    (cond (eqb n 33) (up_to at 0)
    missing))))))))))))))))))))

abbrev place_of : Option ℕ → ℕ
place_of (Some at) = at
place_of None = 0

abbrev pub cause_by : Which → ResourceLimits → Refusal → Cause
cause_by of L q = by_number_lem of L (reported q).number (place_of (reported q).place)

abbrev pub cause_of : ResourceLimits → Refusal → Cause
cause_of L q = cause_by ordinary L q

-- ## Where a cause ends
-- the front's last bytes, which begin at the place, are others than these, and as many
pub record Unlike (place : ℕ) (bytes : Bytes) (at : ℕ) (front : Bytes) : Type 0 where
  pub before : Bytes
  pub others : Bytes
  pub whole : front ≡ before ++ others
  pub begins : place ≡ at + length before
  pub long : length others ≡ length bytes
  pub differs : others ≡ bytes → ⊥

-- nil, false, true, integer, float, short and long string (01, 'The grammar')
abbrev pub tags : List ℕ
tags = 0 ∷ 1 ∷ 17 ∷ 3 ∷ 19 ∷ 4 ∷ 20 ∷ []

abbrev pub NoneOf : List ℕ → ℕ → Type 0
NoneOf [] x = Unit {0}
NoneOf (y ∷ ys) x = (x ≡ y → ⊥) × NoneOf ys x

-- the front's last byte, which stands at the place, is no tag
pub record NoTag (place at : ℕ) (front : Bytes) : Type 0 where
  pub before : Bytes
  pub tag : ℕ
  pub whole : front ≡ before ++ tag ∷ []
  pub begins : place ≡ at + length before
  pub unknown : NoneOf tags tag

-- the number that begins at the place is the front's last, and it is so
pub record LastNumber (So : ℕ → Type 0) (place at : ℕ) (front : Bytes) : Type 0 where
  pub before : Bytes
  pub spelling : Bytes
  pub value : ℕ
  pub whole : front ≡ before ++ spelling
  pub begins : place ≡ at + length before
  pub is : Number place spelling value
  pub so : So value

-- 01: a number is accepted exactly when it is below 2^64 − 128, so the digits before its last byte must spell less than 2^57 − 1; one that is too large is found at its next byte.
-- The last byte of the front is the first behind digits that spell so much: without the last of them it is less
pub record TooLarge (front : Bytes) : Type 0 where
  pub before : Bytes
  pub digits : List ℕ
  pub digit : ℕ
  pub seen : ℕ
  pub whole : front ≡ before ++ (digits ++ digit ∷ seen ∷ [])
  pub small : Below 128 (digits ++ digit ∷ [])
  pub less : base128 0 digits < 2 ^ 57 - 1
  pub enough : 2 ^ 57 - 1 ≤ base128 0 (digits ++ digit ∷ [])

abbrev pub Ends : Cause → ℕ → Bytes → Type 0
Ends (unlike place bytes) at front = Unlike place bytes at front
Ends (no_tag place) at front = NoTag place at front
Ends (above place limit) at front = LastNumber (λ v. limit < v) place at front
Ends (between place limit top) at front = LastNumber (λ v. (limit < v) × (v < top)) place at front
Ends (up_to place limit) at front = LastNumber (λ v. v ≤ limit) place at front
Ends (enters place) at front = place ≡ at + length front
Ends too_large_lem at front = TooLarge front
Ends missing at front = Unit {0}
