-- The four numbers of a finding for C (include/lafzimdo.h): its function, its instruction, its rule (1 opcode, 2 register, 3 constant, 4 upvalue, 5 table upvalue, 6 prototype, 7 jump) and the offending number.
-- Findings and numbers in a list, and one theorem over the list, which antt computes.
--     findings_hold    one of each rule; a jump's target below 0 is its two's complement
-- Told apart: two rules' numbers exchanged, function and instruction exchanged, a target's sign left out.
-- Assumes nothing.
use mathlib.Core.Path.{◌≡◌, refl}
use mathlib.Core.List.{List, [], ◌∷◌, map}
use Prim.Native.Nat.{ℕ, ◌-◌, ◌^◌}
use lib.IntN.{pos, negsuc}
use Rattle.validate_rules.specs.declared.finding.Rule.{Rule}
use Rattle.validate_rules.specs.declared.finding.Rule.TheVariants.{Opcode, Register, Constant, Upvalue, TableUpvalue, Prototype, Jump}
use Rattle.c_finding.specs.FindingNumbers.{finding_numbers}

-- a rule, and the numbers of a finding of instruction 9 of function 8
findings : List (Rule × List ℕ)
findings =
    (Opcode 83, 8 ∷ 9 ∷ 1 ∷ 83 ∷ [])
    ∷ (Register 10, 8 ∷ 9 ∷ 2 ∷ 10 ∷ [])
    ∷ (Constant 131071, 8 ∷ 9 ∷ 3 ∷ 131071 ∷ [])
    ∷ (Upvalue 40, 8 ∷ 9 ∷ 4 ∷ 40 ∷ [])
    ∷ (TableUpvalue 41, 8 ∷ 9 ∷ 5 ∷ 41 ∷ [])
    ∷ (Prototype 50, 8 ∷ 9 ∷ 6 ∷ 50 ∷ [])
    ∷ (Jump (pos 20), 8 ∷ 9 ∷ 7 ∷ 20 ∷ [])
    ∷ (Jump (negsuc 0), 8 ∷ 9 ∷ 7 ∷ (2 ^ 64 - 1) ∷ [])
    ∷ []

findings_hold : map (λ c. finding_numbers (record { function = 8; pc = 9; rule = c.0 })) findings ≡ map (λ c. c.1) findings
unfolding findings
findings_hold = refl
