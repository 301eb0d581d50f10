-- Worked cases of the lines of a list of pcs: functions, pcs and what is answered and written, in a list, and one theorem over the list, which antt computes. Each list is lent the room that is given, filled with 7.
-- Assumes nothing.
use Rattle.std.specs.Prelude.{Result, Ok, Err}
use Rattle.format.specs.declared.refusal.Refusal.{Refusal}
use mathlib.Core.Path.{◌≡◌, refl}
use mathlib.Core.List.{List, [], ◌∷◌, map}
use Prim.Native.Nat.{ℕ, ◌-◌, ◌^◌}
use lib.ListN.{replicate}
use Rattle.format.specs.declared.entry.AbsLineInfo.{AbsLineInfo}
use Rattle.format.specs.declared.refusal.Refusal.TheVariants.{LineTooLarge, LentSpace, AnchorOrder, PcOrder}
use Rattle.format.specs.Form.{Bytes}
use Rattle.line_lookup.specs.Lines.{line_of}
use Rattle.line_lookup.proofs.Cases.{at}
use Rattle.line_batch.specs.Batch.{deltas_read, refusal_of, answered, over_if}

-- a function's first line, its number of instructions, deltas and anchors
record Function : Type 0 where
  line_defined : ℕ
  instructions : ℕ
  deltas : Bytes
  anchors : List AbsLineInfo

-- pcs, the room, the answer and what then stands there
record Case : Type 0 where
  function : Function
  pcs : List ℕ
  room : ℕ
  answer : Result ℕ Refusal
  lines : List ℕ

abbrev case : Function → List ℕ → ℕ → Result ℕ Refusal → List ℕ → Case
case f pcs room answer lines = record { function = f; pcs = pcs; room = room; answer = answer; lines = lines }

-- 01's function
abbrev five : Function
five = record { line_defined = 10; instructions = 5; deltas = 0x01 ∷ 0x00 ∷ 0x02 ∷ 0x80 ∷ 0x01 ∷ []; anchors = at 3 200 ∷ [] }

abbrev two_bases : Function
two_bases = record { line_defined = 7; instructions = 6; deltas = 0x01 ∷ 0x01 ∷ 0x01 ∷ 0x01 ∷ 0x01 ∷ 0x01 ∷ []; anchors = at 2 50 ∷ at 4 80 ∷ [] }

-- as many anchors as instructions
abbrev numbered : Function
numbered = record { line_defined = 7; instructions = 2; deltas = 0x01 ∷ 0x01 ∷ 0x01 ∷ 0x01 ∷ []; anchors = at 1 50 ∷ at 3 80 ∷ [] }

abbrev nine : ℕ → List AbsLineInfo → Function
nine line anchors = record { line_defined = line; instructions = 9; deltas = 0x01 ∷ 0x01 ∷ []; anchors = anchors }

abbrev bare : ℕ → List AbsLineInfo → Function
bare instructions anchors = record { line_defined = 7; instructions = instructions; deltas = []; anchors = anchors }

abbrev below-zero : Function
below-zero = record { line_defined = 0; instructions = 3; deltas = 0xff ∷ 0x02 ∷ 0xff ∷ []; anchors = [] }

-- lines, and how many deltas were read
read : List Case
read =
    case five [] 0 (Ok 0) []
    ∷ case five (2 ∷ []) 1 (Ok 3) (13 ∷ [])
    ∷ case five (0 ∷ 0 ∷ 2 ∷ 3 ∷ 9 ∷ []) 5 (Ok 5) (11 ∷ 11 ∷ 13 ∷ 200 ∷ 201 ∷ [])
    ∷ case five (2 ∷ 9 ∷ []) 2 (Ok 5) (13 ∷ 201 ∷ [])
    -- the room that is left keeps what it held; a −128 counts
    ∷ case five (4 ∷ []) 3 (Ok 2) (201 ∷ 7 ∷ 7 ∷ [])
    -- deltas 1 and 2 stand between what was walked over and the next base
    ∷ case five (0 ∷ 9 ∷ []) 2 (Ok 3) (11 ∷ 201 ∷ [])
    ∷ case two_bases (0 ∷ 4 ∷ 5 ∷ []) 3 (Ok 3) (8 ∷ 81 ∷ 82 ∷ [])
    ∷ case two_bases (1 ∷ 3 ∷ 3 ∷ 5 ∷ (2 ^ 40) ∷ []) 5 (Ok 6) (9 ∷ 52 ∷ 52 ∷ 82 ∷ 82 ∷ [])
    -- rule 2, then the walk
    ∷ case numbered (0 ∷ 1 ∷ 2 ∷ 3 ∷ []) 4 (Ok 3) (50 ∷ 80 ∷ 52 ∷ 81 ∷ [])
    ∷ case numbered (0 ∷ 0 ∷ 1 ∷ 1 ∷ []) 4 (Ok 0) (50 ∷ 50 ∷ 80 ∷ 80 ∷ [])
    -- the base is beyond the deltas
    ∷ case (nine 7 (at 5 50 ∷ [])) (0 ∷ 5 ∷ 9 ∷ []) 3 (Ok 1) (8 ∷ 50 ∷ 50 ∷ [])
    -- rules 4 and 1
    ∷ case (bare 9 (at 5 50 ∷ [])) (0 ∷ 5 ∷ []) 2 (Ok 0) (0 ∷ 0 ∷ [])
    ∷ case (bare 0 []) (0 ∷ 3 ∷ []) 2 (Ok 0) (0 ∷ 0 ∷ [])
    ∷ case below-zero (0 ∷ 1 ∷ 2 ∷ []) 3 (Ok 3) (0 ∷ 1 ∷ 0 ∷ [])
    -- the last pc
    ∷ case five ((2 ^ 64 - 1) ∷ (2 ^ 64 - 1) ∷ []) 2 (Ok 2) (201 ∷ 201 ∷ [])
    ∷ []

-- 30 before 26, 29 before 30, 25 before 29: 25 and 29 for an empty list too
refused : List Case
refused =
    case five (2 ∷ 1 ∷ []) 2 (Err PcOrder) (7 ∷ 7 ∷ [])
    ∷ case five (2 ∷ 1 ∷ []) 0 (Err PcOrder) []
    ∷ case five (0 ∷ 3 ∷ 2 ∷ 9 ∷ []) 4 (Err PcOrder) (7 ∷ 7 ∷ 7 ∷ 7 ∷ [])
    ∷ case five (1 ∷ 2 ∷ []) 1 (Err LentSpace) (7 ∷ [])
    ∷ case (nine 7 (at 1 5 ∷ at 1 6 ∷ [])) (0 ∷ []) 1 (Err AnchorOrder) (7 ∷ [])
    ∷ case (nine 7 (at 1 5 ∷ at 1 6 ∷ [])) [] 0 (Err AnchorOrder) []
    ∷ case (nine 7 (at 2 5 ∷ at 1 6 ∷ [])) (1 ∷ 0 ∷ []) 0 (Err AnchorOrder) []
    ∷ case (nine 7 (at 1 5 ∷ at 2 6 ∷ at 2 7 ∷ [])) (0 ∷ []) 0 (Err AnchorOrder) []
    ∷ case (nine (2 ^ 62) []) [] 0 (Err LineTooLarge) []
    ∷ case (nine (2 ^ 62) (at 2 5 ∷ at 1 6 ∷ [])) (1 ∷ 0 ∷ []) 0 (Err LineTooLarge) []
    ∷ case (nine 7 (at 2 5 ∷ at 1 (2 ^ 62) ∷ [])) [] 0 (Err LineTooLarge) []
    ∷ []

abbrev answer_of : Case → Result ℕ Refusal
answer_of c = let f = c.function in answered (refusal_of f.line_defined f.anchors c.room c.pcs) (deltas_read f.instructions f.line_defined f.deltas f.anchors c.pcs)

abbrev lines_of : Case → List ℕ
lines_of c = let f = c.function in over_if (refusal_of f.line_defined f.anchors c.room c.pcs) (map (line_of f.instructions f.line_defined f.deltas f.anchors) c.pcs) (replicate c.room 7)

read_hold : (map answer_of read ≡ map (λ c. c.answer) read) × (map lines_of read ≡ map (λ c. c.lines) read)
unfolding read
read_hold = (refl, refl)

refused_hold : (map answer_of refused ≡ map (λ c. c.answer) refused) × (map lines_of refused ≡ map (λ c. c.lines) refused)
unfolding refused
refused_hold = (refl, refl)
