-- The proved cases of 01, 'validator.rs': the word of a function's only instruction, and the rules that it breaks; one theorem over the list.
-- Assumes nothing.
use mathlib.Core.Path.{◌≡◌, refl}
use mathlib.Core.List.{List, [], ◌∷◌, map}
use Prim.Native.Nat.{ℕ}
use lib.IntN.{pos}
use Rattle.word_fields.specs.Word.{decoded}
use Rattle.validate_rules.specs.declared.finding.Bounds.{Bounds}
use Rattle.validate_rules.specs.declared.finding.Rule.{Rule}
use Rattle.validate_rules.specs.declared.finding.Rule.TheVariants.{Opcode, Jump}
use Rattle.validate_rules.specs.declared.finding.Severity.TheVariants.{Error}
use Rattle.validate_rules.specs.Rules.{severity, at, instruction}

-- one instruction, a stack of 2, and empty lists
abbrev pub alone : Bounds
alone = record { maxstacksize = 2; instructions = 1; constants = 0; upvalues = 0; protos = 0 }

-- JMP to itself, JMP to just behind it, and a word without an opcode
unfoldable pub cases : List (ℕ × List Rule)
cases = (0x7fffff38, []) ∷ (0x7fffffb8, Jump (pos 1) ∷ []) ∷ (0x00000053, Opcode 0x53 ∷ []) ∷ []

pub all_hold : map (λ c. instruction 0 alone 0 c.0) cases ≡ map (λ c. at 0 0 c.1) cases
unfolding cases instruction decoded
all_hold = refl

pub errors : (severity (Jump (pos 1)) ≡ Error) × (severity (Opcode 0x53) ≡ Error)
errors = (refl, refl)
