-- The quick test of an instruction: the class of an opcode, by what is checked of it, and what the words of a function are held against, by class.
--     classes      0: A alone; 1: nothing; 2: a constant by Bx; 3: an upvalue by B; 4: a prototype by Bx; 5: anything else, for which every word is looked at closely
use Rattle.std.specs.Prelude.{Bool, true, false, cond, ◌≡◌, List, [], ◌∷◌, ℕ, ◌*◌, ltb}
use Rattle.word_opcodes.specs.declared.opcode.Opcode54.{Opcode54}
use Rattle.word_opcodes.specs.Table.{number_of}
use Rattle.validate_rules.specs.declared.finding.Bounds.{Bounds}
use Rattle.validate_rules.specs.declared.glance.Glance.{Glance}
use Rattle.validate_rules.specs.declared.judge.Check.{Check}
use Rattle.validate_rules.specs.declared.judge.Check.TheVariants as check
use Rattle.validate_rules.specs.Rules.{uses_register_at, check_at, instruction}

-- where A is a register, and where it is none
abbrev pub with_register : Check → ℕ
with_register check.Nothing = 0
with_register check.Constant = 2
with_register check.Upvalue = 3
with_register check.TableUpvalueB = 3
with_register check.TableUpvalueA = 5
with_register check.Prototype = 4
with_register check.Jump = 5

abbrev pub without_register : Check → ℕ
without_register check.Nothing = 1
without_register check.Constant = 5
without_register check.Upvalue = 5
without_register check.TableUpvalueB = 5
without_register check.TableUpvalueA = 5
without_register check.Prototype = 5
without_register check.Jump = 5

abbrev pub class_by : Bool → Check → ℕ
class_by true k = with_register k
class_by false k = without_register k

abbrev pub class_at : ℕ → ℕ
class_at n = class_by (uses_register_at n) (check_at n)

abbrev pub class_of : Opcode54 → ℕ
class_of o = class_at (number_of o)

-- a bound of B with the bit below it: no B is above 255
abbrev pub doubled : ℕ → ℕ
doubled n = cond (ltb n 256) (n * 2) 512

abbrev pub glance_of : Bounds → Glance
glance_of b = record {
  registers = b.maxstacksize ∷ 256 ∷ b.maxstacksize ∷ b.maxstacksize ∷ b.maxstacksize ∷ 0 ∷ [];
  masks = 0 ∷ 0 ∷ 0x1FFFF ∷ 0x1FF ∷ 0x1FFFF ∷ 0 ∷ [];
  limits = 1 ∷ 1 ∷ b.constants ∷ doubled b.upvalues ∷ b.protos ∷ 0 ∷ [];
}

-- where an answer to a word is true, the word is an instruction without a finding, in each function that the answer was given for
abbrev pub Fine : List ℕ → List ℕ → List ℕ → ℕ → Bool → Type 0
Fine registers masks limits word r =
    (k : ℕ) (b : Bounds) (pc : ℕ) → registers ≡ (glance_of b).registers → masks ≡ (glance_of b).masks → limits ≡ (glance_of b).limits → r ≡ true → instruction k b pc word ≡ []
