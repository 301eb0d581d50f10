-- An instruction word's fields, and the word of its fields.
--     bits p n w       the number that n bits of w spell, from bit p on.        at p v       v from bit p on
--     decoded w        the fields of w
--     unbiased z limit     z, a signed field with its offset added, where it is a natural below the limit
--     encodedIABC, encodedIABx, encodedIAs_bx, encodedIAx, encoded_isJ       the word of each mode, or refusal 27 where a field is out of range
--     encoded r        the word of r's opcode and of the fields that its mode uses, or refusal 28 where r has no opcode
use Rattle.std.specs.Prelude.{cond, ℕ, ◌+◌, ◌*◌, ◌/◌, ◌%◌, ◌^◌, ltb, ℤ, pos, negsuc, ◌+ℤ◌, ◌-ℤ◌}
use Rattle.std.specs.Prelude.{Option, Some, None, Result, Ok, Err}
use Rattle.format.specs.declared.refusal.Refusal.{Refusal}
use Rattle.format.specs.declared.refusal.Refusal.TheVariants.{FieldRange, NoOpcode}
use Rattle.word_opcodes.specs.declared.opcode.Opcode54.{Opcode54}
use Rattle.word_opcodes.specs.declared.opcode.OpMode54.{OpMode54}
use Rattle.word_opcodes.specs.declared.opcode.OpMode54.TheVariants.{IABC, IABx, IAsBx, IAx, IsJ}
use Rattle.word_fields.specs.declared.instruction.RawInstruction54.{RawInstruction54}
use Rattle.word_opcodes.specs.Lopcodes.{SIZE-OP, SIZE-A, SIZE-B, SIZE-C, SIZE-Bx, SIZE-Ax, SIZE-sJ}
use Rattle.word_opcodes.specs.Lopcodes.{POS-OP, POS-A, POS-k, POS-B, POS-C, POS-Bx, POS-Ax, POS-sJ, OFFSET-sC, OFFSET-sBx, OFFSET-sJ}
use Rattle.word_opcodes.specs.Table.{opcode_at, number_of, mode_of}

abbrev pub bits : ℕ → ℕ → ℕ → ℕ
bits p n w = w / 2 ^ p % 2 ^ n

abbrev pub at : ℕ → ℕ → ℕ
at p v = v * 2 ^ p

unfoldable pub decoded : ℕ → RawInstruction54
decoded w = record {
  opcode_num = bits POS-OP SIZE-OP w;
  opcode = opcode_at (bits POS-OP SIZE-OP w);
  a = bits POS-A SIZE-A w;
  k = bits POS-k 1 w;
  b = bits POS-B SIZE-B w;
  sb = pos (bits POS-B SIZE-B w) -ℤ pos OFFSET-sC;
  c = bits POS-C SIZE-C w;
  sc = pos (bits POS-C SIZE-C w) -ℤ pos OFFSET-sC;
  bx = bits POS-Bx SIZE-Bx w;
  sbx = pos (bits POS-Bx SIZE-Bx w) -ℤ pos OFFSET-sBx;
  ax = bits POS-Ax SIZE-Ax w;
  sj = pos (bits POS-sJ SIZE-sJ w) -ℤ pos OFFSET-sJ;
}

abbrev pub unbiased : ℤ → ℕ → Option ℕ
unbiased (pos m) limit = cond (ltb m limit) (Some m) None
unbiased (negsuc m) limit = None

-- what a signed field stands for, handed on, if it is in range
abbrev pub with_unbiased : Option ℕ → (ℕ → Result ℕ Refusal) → Result ℕ Refusal
with_unbiased (Some n) f = f n
with_unbiased None f = Err FieldRange

abbrev pub encodedIABC : Opcode54 → ℕ → ℕ → ℕ → ℕ → Result ℕ Refusal
encodedIABC o a b c k =
    cond (ltb k 2) (Ok (number_of o + at POS-A a + at POS-k k + at POS-B b + at POS-C c)) (Err FieldRange)

abbrev pub encodedIABx : Opcode54 → ℕ → ℕ → Result ℕ Refusal
encodedIABx o a bx = cond (ltb bx (2 ^ SIZE-Bx)) (Ok (number_of o + at POS-A a + at POS-Bx bx)) (Err FieldRange)

abbrev pub encodedIAs_bx : Opcode54 → ℕ → ℤ → Result ℕ Refusal
encodedIAs_bx o a sbx = with_unbiased (unbiased (sbx +ℤ pos OFFSET-sBx) (2 ^ SIZE-Bx)) (encodedIABx o a)

abbrev pub encodedIAx : Opcode54 → ℕ → Result ℕ Refusal
encodedIAx o ax = cond (ltb ax (2 ^ SIZE-Ax)) (Ok (number_of o + at POS-Ax ax)) (Err FieldRange)

abbrev pub encoded_isJ : Opcode54 → ℤ → Result ℕ Refusal
encoded_isJ o sj = with_unbiased (unbiased (sj +ℤ pos OFFSET-sJ) (2 ^ SIZE-sJ)) (encodedIAx o)

abbrev pub by_mode : OpMode54 → Opcode54 → RawInstruction54 → Result ℕ Refusal
by_mode IABC o r = encodedIABC o r.a r.b r.c r.k
by_mode IABx o r = encodedIABx o r.a r.bx
by_mode IAsBx o r = encodedIAs_bx o r.a r.sbx
by_mode IAx o r = encodedIAx o r.ax
by_mode IsJ o r = encoded_isJ o r.sj

abbrev pub by_opcode : Option Opcode54 → RawInstruction54 → Result ℕ Refusal
by_opcode (Some o) r = by_mode (mode_of o) o r
by_opcode None r = Err NoOpcode

unfoldable pub encoded : RawInstruction54 → Result ℕ Refusal
encoded r = by_opcode r.opcode r
