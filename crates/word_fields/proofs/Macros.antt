-- The fields of a word are what lopcodes.h's macros read.
--     mask         what `MASK1` is at position 0.        read     so `getarg` reads bits
--     fields       the twelve fields of every word are the macros'
-- Assumes nothing.
use mathlib.Core.Path.{◌≡◌, sym, ap, ◌∙◌}
use Prim.Native.Nat.{ℕ, ◌-◌, ◌/◌, ◌<◌, ◌^◌}
use lib.Bits.{bit_and, and_mask}
use lib.Dec.{eqb, eqb→eq, lit<}
use lib.IntN.{pos, ◌-ℤ◌}
use Rattle.word_fields.specs.declared.instruction.RawInstruction54.{RawInstruction54}
use Rattle.word_opcodes.specs.Lopcodes.{POS-OP, POS-A, POS-k, POS-B, POS-C, POS-Bx, POS-Ax, POS-sJ}
use Rattle.word_opcodes.specs.Lopcodes.{SIZE-OP, SIZE-A, SIZE-B, SIZE-C, SIZE-Bx, SIZE-Ax, SIZE-sJ, OFFSET-sC, OFFSET-sBx, OFFSET-sJ}
use Rattle.word_opcodes.specs.Lopcodes.{MASK1, getarg, GET-OPCODE, GETARG-A, GETARG-k, GETARG-B, GETARG-sB, GETARG-C, GETARG-sC}
use Rattle.word_opcodes.specs.Lopcodes.{GETARG-Bx, GETARG-sBx, GETARG-Ax, GETARG-sJ}
use Rattle.word_opcodes.specs.Table.{opcode_at}
use Rattle.word_fields.specs.Word.{bits, decoded}
use Rattle.word_opcodes.proofs.Tests.{at}

abbrev pub by_macros : ℕ → RawInstruction54
by_macros i = record {
  opcode_num = GET-OPCODE i;
  opcode = opcode_at (GET-OPCODE i);
  a = GETARG-A i;
  k = GETARG-k i;
  b = GETARG-B i;
  sb = GETARG-sB i;
  c = GETARG-C i;
  sc = GETARG-sC i;
  bx = GETARG-Bx i;
  sbx = GETARG-sBx i;
  ax = GETARG-Ax i;
  sj = GETARG-sJ i;
}

-- a mask at position 0, of every size
pub mask : (n : ℕ) → n < 33 → MASK1 n 0 ≡ 2 ^ n - 1
mask n h = eqb→eq _ _ (at 33 (λ n. eqb (MASK1 n 0) (2 ^ n - 1)) tt n h)

-- so `getarg` reads bits
pub read : (i p n : ℕ) → n < 33 → bits p n i ≡ getarg i p n
read i p n h = sym (ap (bit_and (i / 2 ^ p)) (mask n h) ∙ and_mask (i / 2 ^ p) n)

pub fields : (i : ℕ) → decoded i ≡ by_macros i
unfolding decoded
fields i =
    λ t. record {
      opcode_num = read i POS-OP SIZE-OP (lit< tt) t;
      opcode = opcode_at (read i POS-OP SIZE-OP (lit< tt) t);
      a = read i POS-A SIZE-A (lit< tt) t;
      k = read i POS-k 1 (lit< tt) t;
      b = read i POS-B SIZE-B (lit< tt) t;
      sb = pos (read i POS-B SIZE-B (lit< tt) t) -ℤ pos OFFSET-sC;
      c = read i POS-C SIZE-C (lit< tt) t;
      sc = pos (read i POS-C SIZE-C (lit< tt) t) -ℤ pos OFFSET-sC;
      bx = read i POS-Bx SIZE-Bx (lit< tt) t;
      sbx = pos (read i POS-Bx SIZE-Bx (lit< tt) t) -ℤ pos OFFSET-sBx;
      ax = read i POS-Ax SIZE-Ax (lit< tt) t;
      sj = pos (read i POS-sJ SIZE-sJ (lit< tt) t) -ℤ pos OFFSET-sJ;
    }
