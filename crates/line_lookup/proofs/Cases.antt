-- The worked cases of 01 'model.rs' that are marked P, and some beside them: inputs and results in a list, and one theorem over the list, which antt computes.
-- Assumes nothing.
use Rattle.std.specs.Prelude.{Result, Ok, Err}
use Rattle.format.specs.declared.refusal.Refusal.{Refusal}
use mathlib.Core.Path.{◌≡◌, refl}
use mathlib.Core.List.{List, [], ◌∷◌, map}
use Prim.Native.Nat.{ℕ, ◌-◌, ◌^◌}
use Rattle.format.specs.declared.entry.AbsLineInfo.{AbsLineInfo}
use Rattle.format.specs.declared.refusal.Refusal.TheVariants.{LineTooLarge}
use Rattle.format.specs.Form.{Bytes}
use Rattle.line_lookup.specs.Lines.{answer_of}

-- a function's first line, its number of instructions, deltas and anchors, a pc, and the line of it
record Case : Type 0 where
  line_defined : ℕ
  instructions : ℕ
  deltas : Bytes
  anchors : List AbsLineInfo
  pc : ℕ
  result : Result ℕ Refusal

abbrev pub at : ℕ → ℕ → AbsLineInfo
at pc line = record { pc = pc; line = line }

abbrev five : ℕ → ℕ → Case
five pc line = record { line_defined = 10; instructions = 5; deltas = 0x01 ∷ 0x00 ∷ 0x02 ∷ 0x80 ∷ 0x01 ∷ []; anchors = at 3 200 ∷ []; pc = pc; result = Ok line }

-- marked P
marked : List Case
marked =
    five 2 13
    ∷ five 3 200
    ∷ five 9 201
    ∷ record { line_defined = 1; instructions = 1; deltas = 0xfb ∷ []; anchors = []; pc = 0; result = Ok 0 }
    ∷ []

-- beside them
more : List Case
more =
    -- rule 1; rule 2, and one instruction more; rule 4
    record { line_defined = 7; instructions = 1; deltas = []; anchors = []; pc = 0; result = Ok 0 }
    ∷ record { line_defined = 7; instructions = 1; deltas = 0x01 ∷ []; anchors = at 5 9 ∷ []; pc = 0; result = Ok 9 }
    ∷ record { line_defined = 7; instructions = 2; deltas = 0x01 ∷ []; anchors = at 5 9 ∷ []; pc = 0; result = Ok 8 }
    ∷ record { line_defined = 7; instructions = 2; deltas = []; anchors = at 0 9 ∷ []; pc = 0; result = Ok 0 }
    -- as many anchors as instructions, and pc not among them: the deltas
    ∷ record { line_defined = 7; instructions = 1; deltas = 0x01 ∷ []; anchors = at 5 9 ∷ []; pc = 1; result = Ok 8 }
    -- below 0 on the way; −128 without an anchor; of two anchors at a pc the first
    ∷ record { line_defined = 0; instructions = 2; deltas = 0xff ∷ 0x02 ∷ []; anchors = []; pc = 1; result = Ok 1 }
    ∷ record { line_defined = 7; instructions = 2; deltas = 0x80 ∷ 0x01 ∷ []; anchors = []; pc = 1; result = Ok 8 }
    ∷ record { line_defined = 7; instructions = 1; deltas = 0x80 ∷ []; anchors = at 0 20 ∷ at 0 30 ∷ []; pc = 0; result = Ok 20 }
    -- anchors out of order: the second is the base, and the delta at the first takes its line; an anchor beyond the deltas
    ∷ record { line_defined = 7; instructions = 3; deltas = 0x01 ∷ 0x80 ∷ 0x01 ∷ []; anchors = at 1 20 ∷ at 0 30 ∷ []; pc = 2; result = Ok 21 }
    ∷ record { line_defined = 7; instructions = 2; deltas = 0x01 ∷ []; anchors = at 5 9 ∷ []; pc = 6; result = Ok 9 }
    -- an anchor above the pc ends the search for the base, though a later one is not above it; a delta of −128 takes the line of an anchor that was not reached there
    ∷ record { line_defined = 7; instructions = 3; deltas = 0x01 ∷ 0x01 ∷ 0x01 ∷ []; anchors = at 2 20 ∷ at 0 30 ∷ []; pc = 1; result = Ok 9 }
    ∷ record { line_defined = 7; instructions = 3; deltas = 0x01 ∷ 0x80 ∷ 0x01 ∷ []; anchors = at 5 9 ∷ at 1 20 ∷ []; pc = 2; result = Ok 21 }
    -- rule 2 goes by an anchor's number, whatever its pc is
    ∷ record { line_defined = 7; instructions = 2; deltas = 0x01 ∷ 0x01 ∷ []; anchors = at 1 20 ∷ at 0 30 ∷ []; pc = 1; result = Ok 30 }
    -- refusal 25
    ∷ record { line_defined = 2 ^ 62 - 1; instructions = 1; deltas = 0x01 ∷ []; anchors = []; pc = 0; result = Ok (2 ^ 62) }
    ∷ record { line_defined = 2 ^ 62; instructions = 1; deltas = []; anchors = []; pc = 0; result = Err LineTooLarge }
    ∷ record { line_defined = 0; instructions = 3; deltas = []; anchors = at 0 0 ∷ at 9 (2 ^ 62) ∷ []; pc = 0; result = Err LineTooLarge }
    ∷ record { line_defined = 2 ^ 62 - 1; instructions = 2; deltas = []; anchors = at 0 (2 ^ 62 - 1) ∷ at 9 (2 ^ 62 - 1) ∷ []; pc = 1; result = Ok (2 ^ 62 - 1) }
    ∷ record { line_defined = 0; instructions = 2; deltas = []; anchors = at 0 (2 ^ 62) ∷ at 9 0 ∷ []; pc = 1; result = Err LineTooLarge }
    ∷ []

abbrev line : Case → Result ℕ Refusal
line c = answer_of c.instructions c.line_defined c.deltas c.anchors c.pc

marked_hold : map line marked ≡ map (λ c. c.result) marked
unfolding marked
marked_hold = refl

more_hold : map line more ≡ map (λ c. c.result) more
unfolding more
more_hold = refl
