-- The number of a verdict, and the four numbers of a finding: its function, its instruction, its rule and the offending number (a jump's target is signed).
use Rattle.std.specs.Prelude.{List, [], ◌∷◌, ℕ}
use Rattle.validate_rules.specs.declared.finding.Finding.{Finding}
use Rattle.validate_rules.specs.declared.finding.Rule.{Rule}
use Rattle.validate_rules.specs.declared.finding.Rule.TheVariants.{Opcode, Register, Constant, Upvalue, TableUpvalue, Prototype, Jump}
use Rattle.validate_rules.specs.declared.finding.Verdict.{Verdict}
use Rattle.validate_rules.specs.declared.finding.Verdict.TheVariants.{ValidForAnalysis, Invalid, Incomplete}
use Rattle.validate_rules.specs.Rules.{offending}
use Rattle.c_boundary.specs.Status.{complement}

abbrev pub verdict_number : Verdict → ℕ
verdict_number ValidForAnalysis = 0
verdict_number Invalid = 1
verdict_number Incomplete = 2

abbrev pub rule_number : Rule → ℕ
rule_number (Opcode n) = 1
rule_number (Register n) = 2
rule_number (Constant n) = 3
rule_number (Upvalue n) = 4
rule_number (TableUpvalue n) = 5
rule_number (Prototype n) = 6
rule_number (Jump z) = 7

abbrev pub offending_number : Rule → ℕ
offending_number rule = complement (offending rule)

abbrev pub finding_numbers : Finding → List ℕ
finding_numbers f = f.function ∷ f.pc ∷ rule_number f.rule ∷ offending_number f.rule ∷ []
