-- An instruction has at most two findings.
-- Assumes nothing.
use mathlib.Core.Path.{◌≡◌, refl}
use mathlib.Core.List.{List, [], ◌∷◌, ◌++◌}
use mathlib.Core.Option.{Option, none, some}
use Prim.Native.Nat.{ℕ, ◌+◌, ◌≤◌}
use native.Mathlib.Omega.{arith}
use lib.ListN.{length}
use Rattle.format.specs.Form.{All}
use Rattle.std.specs.Prelude as prelude
use Rattle.word_opcodes.specs.declared.opcode.Opcode54.{Opcode54}
use Rattle.word_fields.specs.declared.instruction.RawInstruction54.{RawInstruction54}
use Rattle.word_fields.specs.Word.{decoded}
use Rattle.validate_rules.specs.declared.finding.Rule.{Rule}
use Rattle.validate_rules.specs.declared.finding.Finding.{Finding}
use Rattle.validate_rules.specs.declared.finding.Bounds.{Bounds}
use Rattle.validate_rules.specs.Rules.{register_rule, operand_rule, check_of, if_any, rules, at, instruction}
use Rattle.validate_rules.specs.Findings.{code_groups}

abbrev pub Few : List Finding → Type 0
Few g = length g ≤ 2

as_many : (k pc : ℕ) (rs : List Rule) → length (at k pc rs) ≡ length rs
as_many k pc [] = refl
as_many k pc (r ∷ rs) = rw (as_many k pc rs)

two : (a b : Option Rule) → length (if_any a ++ if_any b) ≤ 2
two none none = omega arith
two none (some y) = omega arith
two (some x) none = omega arith
two (some x) (some y) = omega arith

few_rules : (o : prelude.Option Opcode54) (r : RawInstruction54) (b : Bounds) (pc : ℕ) → length (rules o r b pc) ≤ 2
few_rules prelude.None r b pc = omega arith
few_rules (prelude.Some o) r b pc = two (register_rule o r.a b.maxstacksize) (operand_rule (check_of o) r b pc)

few_findings : (k : ℕ) (b : Bounds) (pc word : ℕ) → Few (instruction k b pc word)
unfolding instruction
few_findings k b pc word = rw (as_many k pc (rules (decoded word).opcode (decoded word) b pc)) (few_rules (decoded word).opcode (decoded word) b pc)

pub few_code : (k : ℕ) (b : Bounds) (words : List ℕ) (pc : ℕ) → All Few (code_groups k b words pc)
unfolding code_groups
few_code k b [] pc = tt
few_code k b (word ∷ words) pc = (few_findings k b pc word, few_code k b words (pc + 1))
