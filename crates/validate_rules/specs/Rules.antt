-- THE RULES of validator.rs (01 'validator.rs'), and the findings of one instruction.
--     severity r           whether breaking r is an error or a warning
--     offending r          the number that breaks r: an opcode, a register, an index or a jump's target
--     uses_registerA        `uses_register_a`
--     check_of              which operand the Rust's `match op` holds against a bound
--     instruction k b pc w     the findings of the word w, instruction pc of function k: the register's warning first, then the opcode's error
use Rattle.std.specs.Prelude.{Bool, false, not, ◌||◌, cond, List, [], ◌∷◌, ◌++◌, ℕ, ◌+◌, eqb, leb, ℤ, pos, negsuc, ◌+ℤ◌}
use Rattle.std.specs.Prelude as prelude
use Rattle.std.proofs.Math.Option.{Option, none, some}
use Rattle.word_opcodes.specs.declared.opcode.Opcode54.{Opcode54}
use Rattle.word_opcodes.specs.declared.opcode.Opcode54.TheVariants as op
use Rattle.word_opcodes.specs.Table.{number_of}
use Rattle.word_fields.specs.declared.instruction.RawInstruction54.{RawInstruction54}
use Rattle.word_fields.specs.Word.{decoded}
use Rattle.validate_rules.specs.declared.finding.Rule.{Rule}
use Rattle.validate_rules.specs.declared.finding.Rule.TheVariants.{Opcode, Register, Constant, Upvalue, TableUpvalue, Prototype, Jump}
use Rattle.validate_rules.specs.declared.finding.Finding.{Finding}
use Rattle.validate_rules.specs.declared.finding.Severity.{Severity}
use Rattle.validate_rules.specs.declared.finding.Severity.TheVariants.{Error, Warning}
use Rattle.validate_rules.specs.declared.finding.Bounds.{Bounds}
use Rattle.validate_rules.specs.declared.judge.Check.{Check}
use Rattle.validate_rules.specs.declared.judge.Check.TheVariants as check

abbrev pub severity : Rule → Severity
severity (Opcode n) = Error
severity (Register n) = Warning
severity (Constant n) = Error
severity (Upvalue n) = Error
severity (TableUpvalue n) = Error
severity (Prototype n) = Error
severity (Jump z) = Error

abbrev pub offending : Rule → ℤ
offending (Opcode n) = pos n
offending (Register n) = pos n
offending (Constant n) = pos n
offending (Upvalue n) = pos n
offending (TableUpvalue n) = pos n
offending (Prototype n) = pos n
offending (Jump z) = z

-- whether n is the number of one of these opcodes
abbrev pub among : ℕ → List Opcode54 → Bool
among n [] = false
among n (o ∷ os) = eqb n (number_of o) || among n os

-- by an opcode's number
abbrev pub uses_register_at : ℕ → Bool
uses_register_at n = not (among n (op.Jmp ∷ op.Extraarg ∷ op.Settabup ∷ op.Return0 ∷ op.Varargprep ∷ []))

abbrev pub check_at : ℕ → Check
check_at n =
    cond (among n (op.Loadk ∷ [])) check.Constant
    (cond (among n (op.Getupval ∷ op.Setupval ∷ [])) check.Upvalue
    (cond (among n (op.Gettabup ∷ [])) check.TableUpvalueB
    (cond (among n (op.Settabup ∷ [])) check.TableUpvalueA
    (cond (among n (op.Closure ∷ [])) check.Prototype
    (cond (among n (op.Jmp ∷ [])) check.Jump
    check.Nothing)))))

abbrev pub uses_registerA : Opcode54 → Bool
uses_registerA o = uses_register_at (number_of o)

abbrev pub check_of : Opcode54 → Check
check_of o = check_at (number_of o)

-- at or above its bound
abbrev pub broken_rule : ℕ → ℕ → Rule → Option Rule
broken_rule index bound rule = cond (leb bound index) (some rule) none

-- `target_pc`: negative, or at least the number of instructions
abbrev pub outside : ℤ → ℕ → Option Rule
outside (pos m) count = broken_rule m count (Jump (pos m))
outside (negsuc m) count = some (Jump (negsuc m))

-- pc + 1 + sJ. (An i32 in the Rust: both are below 2^25 there.)
abbrev pub jump_rule : ℕ → ℤ → ℕ → Option Rule
jump_rule pc sj count = outside (pos (pc + 1) +ℤ sj) count

abbrev pub register_rule : Opcode54 → ℕ → ℕ → Option Rule
register_rule o a size = cond (uses_registerA o) (broken_rule a size (Register a)) none

abbrev pub operand_rule : Check → RawInstruction54 → Bounds → ℕ → Option Rule
operand_rule check.Nothing r b pc = none
operand_rule check.Constant r b pc = broken_rule r.bx b.constants (Constant r.bx)
operand_rule check.Upvalue r b pc = broken_rule r.b b.upvalues (Upvalue r.b)
operand_rule check.TableUpvalueB r b pc = broken_rule r.b b.upvalues (TableUpvalue r.b)
operand_rule check.TableUpvalueA r b pc = broken_rule r.a b.upvalues (TableUpvalue r.a)
operand_rule check.Prototype r b pc = broken_rule r.bx b.protos (Prototype r.bx)
operand_rule check.Jump r b pc = jump_rule pc r.sj b.instructions

abbrev pub if_any : Option Rule → List Rule
if_any none = []
if_any (some rule) = rule ∷ []

-- the rules that an instruction breaks: where there is no opcode, nothing else of it is checked
abbrev pub rules : prelude.Option Opcode54 → RawInstruction54 → Bounds → ℕ → List Rule
rules prelude.None r b pc = Opcode r.opcode_num ∷ []
rules (prelude.Some o) r b pc = if_any (register_rule o r.a b.maxstacksize) ++ if_any (operand_rule (check_of o) r b pc)

abbrev pub at : ℕ → ℕ → List Rule → List Finding
at k pc [] = []
at k pc (rule ∷ more) = record { function = k; pc = pc; rule = rule } ∷ at k pc more

unfoldable pub instruction : ℕ → Bounds → ℕ → ℕ → List Finding
instruction k b pc word = at k pc (rules (decoded word).opcode (decoded word) b pc)
