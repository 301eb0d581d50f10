-- What a glance at a word tells: where A and the operand are below the bounds of the opcode's class, the instruction has no finding.
-- Assumes nothing.
use mathlib.Core.Path.{◌≡◌, refl, sym, ap, ◌∙◌}
use mathlib.Core.Bool.{Bool, true, false, cond}
use mathlib.Core.List.{List, [], ◌++◌}
use mathlib.Core.Option.{none}
use Prim.Native.Nat.{ℕ, ◌*◌, ◌/◌, ◌%◌, ◌^◌, ◌<◌}
use native.Mathlib.Nat.{div-one}
use native.Mathlib.Omega.{arith}
use lib.Bits.{bit_and, and_mask}
use lib.Dec.{ltb}
use lib.ListN.{get_or}
use borrow.Author.Tests.{ltb-false, lt-leb}
use Rattle.std.specs.Prelude.{Some}
use Rattle.word_opcodes.specs.Lopcodes.{SIZE-OP, SIZE-A, SIZE-Bx}
use Rattle.word_opcodes.specs.declared.opcode.Opcode54.{Opcode54}
use Rattle.word_opcodes.specs.Table.{opcode_at}
use Rattle.word_fields.specs.Word.{decoded}
use Rattle.validate_rules.specs.declared.finding.Bounds.{Bounds}
use Rattle.validate_rules.specs.declared.finding.Rule.TheVariants.{Register}
use Rattle.validate_rules.specs.declared.judge.Check.{Check}
use Rattle.validate_rules.specs.declared.judge.Check.TheVariants as check
use Rattle.validate_rules.specs.Rules.{uses_registerA, check_of, broken_rule, operand_rule, if_any, rules, at, instruction}
use Rattle.validate_rules.specs.Inner.Glance.{class_by, class_of, doubled, glance_of}

-- B with the bit below it, against twice a number
half : (x n : ℕ) → bit_and (x / 2 ^ 15) 511 < doubled n → x / 2 ^ 16 % 2 ^ 8 < n
half x n h = go (ltb n 256) refl (rw (and_mask (x / 2 ^ 15) 9) at h)
  where
    go : (t : Bool) → ltb n 256 ≡ t → x / 2 ^ 15 % 2 ^ 9 < doubled n → x / 2 ^ 16 % 2 ^ 8 < n
    go true e l = let l' : x / 2 ^ 15 % 2 ^ 9 < n * 2 = rw e at l in omega arith
    go false e l = omega (arith, ltb-false n 256 e)

module _ (word : ℕ) (b : Bounds) (pc : ℕ) where
  -- the two tests of a class
  abbrev pub Below : List ℕ → List ℕ → List ℕ → ℕ → Type 0
  Below registers masks limits c = (bit_and (word / 2 ^ 7) 255 < get_or registers c 0) × (bit_and (word / 2 ^ 15) (get_or masks c 0) < get_or limits c 0)

  register : bit_and (word / 2 ^ 7) 255 < b.maxstacksize → broken_rule (decoded word).a b.maxstacksize (Register (decoded word).a) ≡ none
  unfolding decoded
  register h = let a : word / 2 ^ 7 % 2 ^ 8 < b.maxstacksize = rw (and_mask (word / 2 ^ 7) SIZE-A) at h in rw (lt-leb _ _ a)

  by_class : (uses : Bool) (k : Check) → Below (glance_of b).registers (glance_of b).masks (glance_of b).limits (class_by uses k)
      → (cond uses (broken_rule (decoded word).a b.maxstacksize (Register (decoded word).a)) none ≡ none) × (operand_rule k (decoded word) b pc ≡ none)
  unfolding decoded
  by_class true check.Nothing (a, x) = (register a, refl)
  by_class true check.Constant (a, x) = let bx : word / 2 ^ 15 % 2 ^ 17 < b.constants = rw (and_mask (word / 2 ^ 15) SIZE-Bx) at x in (register a, rw (lt-leb _ _ bx))
  by_class true check.Upvalue (a, x) = (register a, rw (lt-leb _ _ (half word b.upvalues x)))
  by_class true check.TableUpvalueB (a, x) = (register a, rw (lt-leb _ _ (half word b.upvalues x)))
  by_class true check.TableUpvalueA (a, x) = absurd (omega arith)
  by_class true check.Prototype (a, x) = let bx : word / 2 ^ 15 % 2 ^ 17 < b.protos = rw (and_mask (word / 2 ^ 15) SIZE-Bx) at x in (register a, rw (lt-leb _ _ bx))
  by_class true check.Jump (a, x) = absurd (omega arith)
  by_class false check.Nothing (a, x) = (refl, refl)
  by_class false check.Constant (a, x) = absurd (omega arith)
  by_class false check.Upvalue (a, x) = absurd (omega arith)
  by_class false check.TableUpvalueB (a, x) = absurd (omega arith)
  by_class false check.TableUpvalueA (a, x) = absurd (omega arith)
  by_class false check.Prototype (a, x) = absurd (omega arith)
  by_class false check.Jump (a, x) = absurd (omega arith)

  pub at_a_glance : (k : ℕ) (o : Opcode54) → opcode_at (bit_and word 127) ≡ Some o → (c : ℕ) → c ≡ class_of o
      → (registers masks limits : List ℕ) → registers ≡ (glance_of b).registers → masks ≡ (glance_of b).masks → limits ≡ (glance_of b).limits → Below registers masks limits c
      → instruction k b pc word ≡ []
  unfolding instruction decoded
  at_a_glance k o named c is registers masks limits of-a of_mask of-limit below =
      let low = and_mask word SIZE-OP ∙ ap (λ x. x % 2 ^ SIZE-OP) (sym (div-one word)) in
      let both = by_class (uses_registerA o) (check_of o) (rw (of-a, of_mask, of-limit, is) at below) in
      ap (λ n. at k pc (rules n (decoded word) b pc)) (ap opcode_at (sym low) ∙ named) ∙ (λ i. at k pc (if_any (both.0 i) ++ if_any (both.1 i)))
