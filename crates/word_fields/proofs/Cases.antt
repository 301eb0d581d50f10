-- The proved cases of 01, 'opcodes.rs': inputs, results, and one theorem over the list.
--     cases r      r gives the fields that a case does not name: whatever they are, the result is the same
--     refusals     the numbers that 01 gives to the refusals of `encode`
-- Assumes nothing.
use mathlib.Core.Path.{◌≡◌, refl}
use mathlib.Core.List.{List, [], ◌∷◌, map}
use Prim.Native.Nat.{ℕ}
use lib.IntN.{negsuc}
use Rattle.std.specs.Prelude.{Option, Some, None, Result, Ok, Err}
use Rattle.format.specs.declared.refusal.Refusal.{Refusal}
use Rattle.format.specs.declared.refusal.Refusal.TheVariants.{FieldRange, NoOpcode}
use Rattle.format.specs.Refusals.{reported, bare}
use Rattle.word_opcodes.specs.declared.opcode.Opcode54.{Opcode54}
use Rattle.word_opcodes.specs.declared.opcode.Opcode54.TheVariants.{Loadi, Jmp}
use Rattle.word_fields.specs.declared.instruction.RawInstruction54.{RawInstruction54}
use Rattle.word_fields.specs.Word.{decoded, encoded}

-- what is asked: a word's opcode, the word of some fields, or a word encoded back from its own
pub data Question : Type 0 where
  opcode_of : ℕ → Question
  word_of : RawInstruction54 → Question
  back_from : ℕ → Question

pub data Answer : Type 0 where
  opcode : Option Opcode54 → Answer
  word : Result ℕ Refusal → Answer

abbrev pub answer : Question → Answer
answer (opcode_of w) = opcode (decoded w).opcode
answer (word_of r) = word (encoded r)
answer (back_from w) = word (encoded (decoded w))

-- LOADI, A 1, sBx -1
unfoldable pub loadi : RawInstruction54 → RawInstruction54
loadi r = record {
  opcode_num = r.opcode_num;
  opcode = Some Loadi;
  a = 1;
  k = r.k;
  b = r.b;
  sb = r.sb;
  c = r.c;
  sc = r.sc;
  bx = r.bx;
  sbx = negsuc 0;
  ax = r.ax;
  sj = r.sj;
}

-- JMP, sJ -1
unfoldable pub jmp : RawInstruction54 → RawInstruction54
jmp r = record {
  opcode_num = r.opcode_num;
  opcode = Some Jmp;
  a = r.a;
  k = r.k;
  b = r.b;
  sb = r.sb;
  c = r.c;
  sc = r.sc;
  bx = r.bx;
  sbx = r.sbx;
  ax = r.ax;
  sj = negsuc 0;
}

unfoldable pub cases : RawInstruction54 → List (Question × Answer)
cases r =
    (word_of (loadi r), word (Ok 0x7fff0081)) ∷
    (word_of (jmp r), word (Ok 0x7fffff38)) ∷
    (opcode_of 0x00000053, opcode None) ∷
    (back_from 0x00000053, word (Err NoOpcode)) ∷ []

pub all_hold : (r : RawInstruction54) → map (λ c. answer c.0) (cases r) ≡ map (λ c. c.1) (cases r)
unfolding cases loadi jmp decoded encoded
all_hold r = refl

pub refusals : (reported FieldRange ≡ bare 27) × (reported NoOpcode ≡ bare 28)
refusals = (refl, refl)
