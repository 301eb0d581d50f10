-- Decoding and encoding.
--     same_word        a word encodes back to itself exactly when its low 7 bits are at most 82
-- Assumes nothing.
use mathlib.Core.Path.{◌≡◌, refl, sym, ap, ◌∙◌}
use mathlib.Core.Bool.{Bool, true, false, cond}
use mathlib.Core.Logic.{◌↔◌}
use Prim.Native.Nat.{ℕ, ◌+◌, ◌/◌, ◌%◌, ◌<◌, ◌≤◌, ◌^◌}
use native.Mathlib.Nat.{mod-lt, mod-eq_of_lt, div-one}
use native.Mathlib.Omega.{arith}
use lib.Dec.{ltb}
use lib.IntN.{pos, ◌+ℤ◌, ◌-ℤ◌, -ℤ-+ℤ_cancel}
use lib.ListN.{get_or}
use lib.Pow.{pow_pos}
use borrow.Author.Tests.{lt-ltb, ltb-true}
use Rattle.std.specs.Prelude.{Some, None, Result, Ok, Err}
use Rattle.format.specs.declared.refusal.Refusal.{Refusal}
use Rattle.format.specs.declared.refusal.Refusal.TheVariants.{NoOpcode}
use Rattle.word_opcodes.specs.declared.opcode.Opcode54.{Opcode54}
use Rattle.word_opcodes.specs.declared.opcode.Opcode54.TheVariants.{Move}
use Rattle.word_opcodes.specs.declared.opcode.OpMode54.{OpMode54}
use Rattle.word_opcodes.specs.declared.opcode.OpMode54.TheVariants.{IABC, IABx, IAsBx, IAx, IsJ}
use Rattle.word_opcodes.specs.Lopcodes.{POS-OP, POS-A, POS-k, POS-B, POS-C, POS-Bx, POS-Ax, POS-sJ}
use Rattle.word_opcodes.specs.Lopcodes.{SIZE-OP, SIZE-A, SIZE-B, SIZE-C, SIZE-Bx, SIZE-Ax, SIZE-sJ}
use Rattle.word_opcodes.specs.Lopcodes.{OFFSET-sBx, OFFSET-sJ}
use Rattle.word_opcodes.specs.Table.{opcodes, number_of, mode_of}
use Rattle.word_fields.specs.Word.{at, bits, unbiased, with_unbiased, encodedIABx, encodedIAx, by_mode, by_opcode, decoded, encoded}
use Rattle.word_opcodes.proofs.Opcodes.{number_at}
use Rattle.word_fields.proofs.Words.{low_bits, chosen}

small : (p n w : ℕ) → ltb (bits p n w) (2 ^ n) ≡ true
small p n w = lt-ltb _ _ (mod-lt (w / 2 ^ p) (pow_pos n))

module _ (w : ℕ) (fits : w < 2 ^ 32) where
  -- ---- by whatever mode, the fields of w and an opcode whose number is w's low bits make w again
  module _ (o : Opcode54) (no : number_of o ≡ bits POS-OP SIZE-OP w) where
    lowest : number_of o ≡ w % 2 ^ SIZE-OP
    lowest = no ∙ ap (λ x. x % 2 ^ SIZE-OP) (div-one w)

    with_a : number_of o + at POS-A (bits POS-A SIZE-A w) ≡ w % 2 ^ POS-k
    with_a = ap (λ x. x + at POS-A (bits POS-A SIZE-A w)) lowest ∙ low_bits POS-A SIZE-A w

    abc : number_of o + at POS-A (bits POS-A SIZE-A w) + at POS-k (bits POS-k 1 w) + at POS-B (bits POS-B SIZE-B w) + at POS-C (bits POS-C SIZE-C w)
        ≡ w
    abc =
        ap (λ x. x + at POS-k (bits POS-k 1 w) + at POS-B (bits POS-B SIZE-B w) + at POS-C (bits POS-C SIZE-C w)) with_a
        ∙ ap (λ x. x + at POS-B (bits POS-B SIZE-B w) + at POS-C (bits POS-C SIZE-C w)) (low_bits POS-k 1 w)
        ∙ ap (λ x. x + at POS-C (bits POS-C SIZE-C w)) (low_bits POS-B SIZE-B w)
        ∙ low_bits POS-C SIZE-C w
        ∙ mod-eq_of_lt fits

    abx : encodedIABx o (bits POS-A SIZE-A w) (bits POS-Bx SIZE-Bx w) ≡ Ok w
    abx =
        rw (small POS-Bx SIZE-Bx w)
        (ap Ok (ap (λ x. x + at POS-Bx (bits POS-Bx SIZE-Bx w)) with_a ∙ low_bits POS-Bx SIZE-Bx w ∙ mod-eq_of_lt fits))

    ax : encodedIAx o (bits POS-Ax SIZE-Ax w) ≡ Ok w
    ax =
        rw (small POS-Ax SIZE-Ax w)
        (ap Ok (ap (λ x. x + at POS-Ax (bits POS-Ax SIZE-Ax w)) lowest ∙ low_bits POS-Ax SIZE-Ax w ∙ mod-eq_of_lt fits))

    -- a signed field, with its offset taken off and added again
    signed : (p n offset : ℕ) (f : ℕ → Result ℕ Refusal)
        → with_unbiased (unbiased (pos (bits p n w) -ℤ pos offset +ℤ pos offset) (2 ^ n)) f ≡ f (bits p n w)
    signed p n offset f =
        ap (λ z. with_unbiased (unbiased z (2 ^ n)) f) (-ℤ-+ℤ_cancel (pos (bits p n w)) (pos offset))
        ∙ ap (λ t. with_unbiased (cond t (Some (bits p n w)) None) f) (small p n w)

    back : (m : OpMode54) → by_mode m o (decoded w) ≡ Ok w
    unfolding decoded
    back IABC = rw (small POS-k 1 w) (ap Ok abc)
    back IABx = abx
    back IAsBx = signed POS-Bx SIZE-Bx OFFSET-sBx (encodedIABx o (bits POS-A SIZE-A w)) ∙ abx
    back IAx = ax
    back IsJ = signed POS-sJ SIZE-sJ OFFSET-sJ (encodedIAx o) ∙ ax

  -- ---- the opcode of w's low bits, or none
  num : ℕ
  num = bits POS-OP SIZE-OP w

  named : num ≤ 82 → encoded (decoded w) ≡ Ok w
  unfolding decoded num
  named h =
      let under : num < 83 = omega arith in
      let o = get_or opcodes num Move in
      sym (chosen (decoded w) (ap (λ t. cond t (Some o) None) (lt-ltb num 83 under)) refl refl refl)
      ∙ back o (number_at num under) (mode_of o)

  unnamed : encoded (decoded w) ≡ Ok w → num ≤ 82
  unfolding decoded encoded num
  unnamed e = go (ltb num 83) refl
    where
      go : (t : Bool) → ltb num 83 ≡ t → num ≤ 82
      go true s = omega (arith, ltb-true num 83 s)
      go false s =
          let refused : Err NoOpcode ≡ Ok w
          = sym (ap (λ t. by_opcode (cond t (Some (get_or opcodes num Move)) None) (decoded w)) s) ∙ e in
          let z : ◌≡◌ {A = ℕ} 0 1 = cc in
          absurd (omega arith)

pub same_word : (w : ℕ) → w < 2 ^ 32 → (encoded (decoded w) ≡ Ok w) ↔ (bits POS-OP SIZE-OP w ≤ 82)
unfolding num
same_word w fits = (unnamed w fits, named w fits)
