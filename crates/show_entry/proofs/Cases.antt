-- One entry of each list, from the bytes of a chunk whose function 4 has numbers that all differ (crates/format/proofs/Distinct.antt): the first, the last, one behind the last (24) and one of a function that is not there (23); antt computes all.
--     words_hold, constants_hold, upvalues_hold, deltas_hold, anchors_hold, names_hold
--     signs_hold       a delta and an integer are signed, a float is its bits
-- Told apart: parts of an entry exchanged, another list's entry, bytes high first, a tag taken for another, numbers of entries from 1, 24 given for 23.
-- Assumes nothing.
use Rattle.std.specs.Prelude.{Some, None, Ok, Err}
use mathlib.Core.Path.{◌≡◌, refl}
use mathlib.Core.Bool.{true, false}
use mathlib.Core.List.{List, [], ◌∷◌, map}
use Prim.Native.Nat.{ℕ, ◌-◌, ◌^◌}
use lib.IntN.{pos, negsuc}
use Rattle.format.specs.declared.refusal.Refusal.TheVariants.{NoFunction, NoEntry}
use Rattle.format.specs.Limits.{ceilings}
use Rattle.format.specs.Reading as reading
use Rattle.format.specs.ReadChunk.{body, function, Outcome, read}
use Rattle.format.proofs.Distinct.{distinct}
use Rattle.read_entry.specs.declared.constant.ConstantValue.TheVariants as constant
use Rattle.show_row.specs.Asked.{found, entry_of}
use Rattle.show_entry.specs.Entries.{shown_word, shown_constant, shown_upvalue, shown_delta, shown_anchor, shown_name}

abbrev chunk : Outcome
chunk = read ceilings distinct

-- function and entry: the first and the last of n, the one behind, and one of no function
abbrev asked : ℕ → List (ℕ × ℕ)
asked n = (4, 0) ∷ (4, n - 1) ∷ (4, n) ∷ (9, 0) ∷ []

words_hold : map (λ (c : ℕ × ℕ). shown_word (entry_of (λ p. p.instructions) c.0 c.1 chunk)) (asked 5)
    ≡ Ok 0x04030201 ∷ Ok 0 ∷ Err NoEntry ∷ Err NoFunction ∷ []
unfolding distinct read body function
words_hold = refl

constants_hold : map (λ (n : ℕ). shown_constant (entry_of (λ p. p.constants) 4 n chunk)) (0 ∷ 1 ∷ 2 ∷ 3 ∷ 4 ∷ 5 ∷ 6 ∷ 7 ∷ [])
    ≡ Ok constant.Nil
    ∷ Ok (constant.Boolean false)
    ∷ Ok (constant.Boolean true)
    ∷ Ok (constant.Integer (pos 0x0605))
    ∷ Ok (constant.Float 0x0807)
    ∷ Ok (constant.ShortString (record { place = 144; len = 2 }))
    ∷ Ok (constant.LongString (record { place = 148; len = 3 }))
    ∷ Err NoEntry
    ∷ []
unfolding distinct read body function
constants_hold = refl

upvalues_hold : map (λ (c : ℕ × ℕ). shown_upvalue (entry_of (λ p. p.upvalues) c.0 c.1 chunk)) (asked 6)
    ≡ Ok (record { instack = 1; idx = 2; kind = 3 }) ∷ Ok (record { instack = 0; idx = 0; kind = 0 })
    ∷ Err NoEntry ∷ Err NoFunction ∷ []
unfolding distinct read body function
upvalues_hold = refl

deltas_hold : map (λ (c : ℕ × ℕ). shown_delta (entry_of (λ p. p.line_info_lem) c.0 c.1 chunk)) (asked 8)
    ≡ Ok (negsuc 0) ∷ Ok (pos 0) ∷ Err NoEntry ∷ Err NoFunction ∷ []
unfolding distinct read body function
deltas_hold = refl

anchors_hold : map (λ (c : ℕ × ℕ). shown_anchor (entry_of (λ p. p.abs_line_info) c.0 c.1 chunk)) (asked 9)
    ≡ Ok (record { pc = 3; line = 4 }) ∷ Ok (record { pc = 0; line = 0 }) ∷ Err NoEntry ∷ Err NoFunction ∷ []
unfolding distinct read body function
anchors_hold = refl

names_hold : map (λ (c : ℕ × ℕ). shown_name (entry_of (λ p. p.upvalue_names_lem) c.0 c.1 chunk)) (asked 11)
    ≡ Ok (Some (record { place = 289; len = 1 })) ∷ Ok None ∷ Err NoEntry ∷ Err NoFunction ∷ []
unfolding distinct read body function
names_hold = refl

-- 127, −128, −1; 2^63 − 1, −2^63, −1
signs_hold : (map (λ (n : ℕ). shown_delta (found n)) (0x7f ∷ 0x80 ∷ 0xff ∷ []) ≡ Ok (pos 127) ∷ Ok (negsuc 127) ∷ Ok (negsuc 0) ∷ [])
    × (map (λ (n : ℕ). shown_constant (found (reading.integer n))) ((2 ^ 63 - 1) ∷ 2 ^ 63 ∷ (2 ^ 64 - 1) ∷ [])
    ≡ Ok (constant.Integer (pos (2 ^ 63 - 1))) ∷ Ok (constant.Integer (negsuc (2 ^ 63 - 1))) ∷ Ok (constant.Integer (negsuc 0)) ∷ [])
    × (shown_constant (found (reading.float (2 ^ 64 - 1))) ≡ Ok (constant.Float (2 ^ 64 - 1)))
signs_hold = (refl, refl, refl)
