-- EVERY RULE of validator.rs (01 'validator.rs') by a word: at the bound it is broken, one below it is not. Words and the rules that they break in a list, and one theorem over the list, which antt computes.
--     words_hold       told apart: another bound or operand, above for at, SETTABUP's A a register or its B checked, the operand's finding first, function and pc exchanged
--     exempt_are       of the 83 opcodes, those whose A is no register: SETTABUP, JMP, RETURN0, VARARGPREP, EXTRAARG
--     checked_are      of the 128 opcode numbers, those that are held against a list's bound or have no opcode, with their rule
--     bounds_are       what a function's words are held against: its stack and the lengths of its lists
--     offending_holds  the number that breaks each rule
--     severities_hold  of each rule: only a register is a warning; and the verdict on a chunk with that one finding
-- Assumes nothing.
use mathlib.Core.Path.{◌≡◌, refl}
use mathlib.Core.Bool.{true, false}
use mathlib.Core.List.{List, [], ◌∷◌, ◌++◌, map}
use Prim.Native.Nat.{ℕ, zero, suc, ◌+◌, ◌*◌}
use lib.IntN.{pos, negsuc}
use Rattle.format.proofs.Distinct.{fourth}
use Rattle.word_fields.specs.Word.{decoded}
use Rattle.validate_rules.specs.declared.finding.Bounds.{Bounds}
use Rattle.validate_rules.specs.declared.finding.Finding.{Finding}
use Rattle.validate_rules.specs.declared.finding.Rule.{Rule}
use Rattle.validate_rules.specs.declared.finding.Rule.TheVariants.{Opcode, Register, Constant, Upvalue, TableUpvalue, Prototype, Jump}
use Rattle.validate_rules.specs.declared.finding.Severity.{Severity}
use Rattle.validate_rules.specs.declared.finding.Severity.TheVariants.{Error, Warning}
use Rattle.validate_rules.specs.declared.finding.Verdict.{Verdict}
use Rattle.validate_rules.specs.declared.finding.Verdict.TheVariants.{ValidForAnalysis, Invalid, Incomplete}
use Rattle.validate_rules.specs.Rules.{severity, offending, instruction}
use Rattle.validate_rules.specs.Findings.{bounds_of, verdict}

-- bounds that all differ; the word is instruction 7 of function 5
abbrev bounds : Bounds
bounds = record { maxstacksize = 10; instructions = 20; constants = 30; upvalues = 40; protos = 50 }

abbrev found : Rule → Finding
found rule = record { function = 5; pc = 7; rule = rule }

-- words: an opcode with A, B and C; with A and Bx; with sJ and 16,777,215
abbrev abc : ℕ → ℕ → ℕ → ℕ → ℕ
abc op a b c = op + 0x80 * a + 0x10000 * b + 0x1000000 * c

abbrev abx : ℕ → ℕ → ℕ → ℕ
abx op a bx = op + 0x80 * a + 0x8000 * bx

abbrev jmp : ℕ → ℕ
jmp sj = 56 + 0x80 * sj

words : List (ℕ × List Finding)
words =
    -- LOADK's Bx against the constants; LOADKX's is not checked
    (abx 3 9 30, found (Constant 30) ∷ []) ∷ (abx 3 9 29, []) ∷ (abx 4 9 131071, [])
    -- GETUPVAL's, SETUPVAL's and GETTABUP's B and SETTABUP's A against the upvalues; SETTABUP's B is not checked
    ∷ (abc 9 9 40 255, found (Upvalue 40) ∷ []) ∷ (abc 9 9 39 255, [])
    ∷ (abc 10 9 40 255, found (Upvalue 40) ∷ []) ∷ (abc 10 9 39 255, [])
    ∷ (abc 11 9 40 255, found (TableUpvalue 40) ∷ []) ∷ (abc 11 9 39 255, [])
    ∷ (abc 15 40 0 255, found (TableUpvalue 40) ∷ []) ∷ (abc 15 39 255 255, [])
    -- CLOSURE's Bx against the nested functions
    ∷ (abx 79 9 50, found (Prototype 50) ∷ []) ∷ (abx 79 9 49, [])
    -- JMP: 7 + 1 + sJ against the instructions, and against 0
    ∷ (jmp (16777215 + 12), found (Jump (pos 20)) ∷ []) ∷ (jmp (16777215 + 11), []) ∷ (jmp 16777207, []) ∷ (jmp 16777206, found (Jump (negsuc 0)) ∷ [])
    -- A against the stack's size: MOVE, RETURN1; not of SETTABUP, RETURN0, VARARGPREP, EXTRAARG, nor of JMP, whose bits of A are 10 where it jumps to 19
    ∷ (abc 0 10 255 255, found (Register 10) ∷ []) ∷ (abc 0 9 255 255, []) ∷ (abc 72 10 0 0, found (Register 10) ∷ [])
    ∷ (abc 15 10 0 0, []) ∷ (abc 71 10 0 0, []) ∷ (abc 81 10 0 0, []) ∷ (abc 82 10 0 0, [])
    -- both: the register first
    ∷ (abx 3 10 30, found (Register 10) ∷ found (Constant 30) ∷ []) ∷ (abx 79 255 131071, found (Register 255) ∷ found (Prototype 131071) ∷ [])
    -- no opcode: nothing else of it is checked
    ∷ (abc 83 255 255 255, found (Opcode 83) ∷ []) ∷ (abc 127 255 255 255, found (Opcode 127) ∷ [])
    ∷ []

words_hold : map (λ c. instruction 5 bounds 7 c.0) words ≡ map (λ c. c.1) words
unfolding words instruction decoded
words_hold = refl

-- ## All opcodes
-- n + 1 numbers, from 0 up
up_to : ℕ → List ℕ
up_to zero = 0 ∷ []
up_to (suc n) = up_to n ++ (suc n ∷ [])

-- the rules that a word breaks, each with the word's opcode
abbrev rules_in : ℕ → List Finding → List (ℕ × Rule)
rules_in op [] = []
rules_in op (f ∷ fs) = (op, f.rule) ∷ rules_in op fs

swept : (ℕ → List Finding) → List ℕ → List (ℕ × Rule)
swept findings [] = []
swept findings (op ∷ ops) = rules_in op (findings op) ++ swept findings ops

-- opcodes for which a word breaks nothing
fine : (ℕ → List Finding) → List ℕ → List ℕ
fine findings [] = []
fine findings (op ∷ ops) = none (findings op) ++ fine findings ops
  where
    none : List Finding → List ℕ
    none [] = op ∷ []
    none (f ∷ fs) = []

-- A is 10, the stack 10, the lists long
exempt_are : fine (λ op. instruction 0 (record { maxstacksize = 10; instructions = 16777216; constants = 255; upvalues = 255; protos = 255 }) 16777214 (abc op 10 0 0)) (up_to 82) ≡ 15 ∷ 56 ∷ 71 ∷ 81 ∷ 82 ∷ []
unfolding fine up_to instruction decoded
exempt_are = refl

-- A is 0, the stack 1, the lists empty; JMP jumps to −16,777,214
checked_are : swept (λ op. instruction 0 (record { maxstacksize = 1; instructions = 1; constants = 0; upvalues = 0; protos = 0 }) 0 op) (up_to 127)
    ≡ ((3, Constant 0) ∷ (9, Upvalue 0) ∷ (10, Upvalue 0) ∷ (11, TableUpvalue 0) ∷ (15, TableUpvalue 0) ∷ (56, Jump (negsuc 16777213)) ∷ (79, Prototype 0) ∷ []) ++ map (λ n. (83 + n, Opcode (83 + n))) (up_to 44)
unfolding swept up_to instruction decoded
checked_are = refl

-- ## Bounds
bounds_are : bounds_of fourth ≡ record { maxstacksize = 17; instructions = 5; constants = 7; upvalues = 6; protos = 4 }
unfolding fourth
bounds_are = refl

-- ## Offending numbers
offending_holds : map offending (Opcode 1 ∷ Register 2 ∷ Constant 3 ∷ Upvalue 4 ∷ TableUpvalue 5 ∷ Prototype 6 ∷ Jump (pos 7) ∷ Jump (negsuc 8) ∷ [])
    ≡ pos 1 ∷ pos 2 ∷ pos 3 ∷ pos 4 ∷ pos 5 ∷ pos 6 ∷ pos 7 ∷ negsuc 8 ∷ []
offending_holds = refl

-- ## Severities and verdicts
-- a rule's severity, the verdict on a chunk with this finding alone, and on one that was stopped
abbrev judged : Rule → Severity × Verdict × Verdict
judged rule = (severity rule, verdict (record { findings = found rule ∷ []; stopped = false }), verdict (record { findings = found rule ∷ []; stopped = true }))

severities : List (Rule × (Severity × Verdict × Verdict))
severities =
    (Opcode 83, (Error, Invalid, Invalid))
    ∷ (Register 10, (Warning, ValidForAnalysis, Incomplete))
    ∷ (Constant 30, (Error, Invalid, Invalid))
    ∷ (Upvalue 40, (Error, Invalid, Invalid))
    ∷ (TableUpvalue 40, (Error, Invalid, Invalid))
    ∷ (Prototype 50, (Error, Invalid, Invalid))
    ∷ (Jump (pos 20), (Error, Invalid, Invalid))
    ∷ []

severities_hold : map (λ c. judged c.0) severities ≡ map (λ c. c.1) severities
unfolding severities
severities_hold = refl
