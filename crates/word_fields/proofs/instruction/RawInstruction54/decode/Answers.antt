-- `RawInstruction54::decode` meets its contract, field by field: a mask leaves a field's bits (`Signs.antt` for the signed ones). Assumes nothing.
use mathlib.Core.Path.{ap, sym, ◌∙◌}
use Prim.Native.Nat.{◌/◌, ◌%◌, ◌^◌}
use native.Mathlib.Nat.{div-one}
use lib.Bits.{and_mask}
use lib.Dec.{lit<}
use Rattle.word_opcodes.specs.Lopcodes.{SIZE-OP, SIZE-A, SIZE-B, SIZE-C, SIZE-Bx, SIZE-Ax, SIZE-sJ, POS-A, POS-k, POS-B, POS-C, POS-Bx, POS-Ax, POS-sJ}
use Rattle.word_opcodes.specs.Table.{opcode_at}
use Rattle.word_fields.specs.Word.{decoded}
use Rattle.word_fields.proofs.Signs.{less_is}
use Rattle.word_fields.proofs.instruction.RawInstruction54.decode.Goals as goal

pub returns : goal.returns
unfolding decoded
returns c =
    let w = c.args.word in
    let low = and_mask w SIZE-OP ∙ ap (λ x. x % 2 ^ SIZE-OP) (sym (div-one w)) in
    λ i. record {
      opcode_num = low i;
      opcode = (c.from_u8-opcode.ensures ∙ ap opcode_at low) i;
      a = and_mask (w / 2 ^ POS-A) SIZE-A i;
      k = and_mask (w / 2 ^ POS-k) 1 i;
      b = and_mask (w / 2 ^ POS-B) SIZE-B i;
      sb = less_is (w / 2 ^ POS-B) SIZE-B 126 tt (lit< tt) i;
      c = and_mask (w / 2 ^ POS-C) SIZE-C i;
      sc = less_is (w / 2 ^ POS-C) SIZE-C 126 tt (lit< tt) i;
      bx = and_mask (w / 2 ^ POS-Bx) SIZE-Bx i;
      sbx = less_is (w / 2 ^ POS-Bx) SIZE-Bx 65534 tt (lit< tt) i;
      ax = and_mask (w / 2 ^ POS-Ax) SIZE-Ax i;
      sj = less_is (w / 2 ^ POS-sJ) SIZE-sJ 16777214 tt (lit< tt) i;
    }
