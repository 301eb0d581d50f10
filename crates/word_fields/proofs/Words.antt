-- A word, put together and taken apart field by field, from bit 0 on.
--     Built x s p      the word x, so far, is the sum s of its fields, which lie below bit p.        add      one more field
--     low_bits     the next field of w, added to the bits of w below it, gives the bits of w up to its end
--     chosen       the word of a record's opcode is the word of its mode
-- Assumes nothing.
use mathlib.Core.Path.{◌≡◌, sym, ap, ◌∙◌}
use Prim.Native.Nat.{ℕ, ◌+◌, ◌*◌, ◌%◌, ◌<◌, ◌^◌}
use native.Mathlib.Nat.{add_comm}
use lib.Arith.{digits_lt}
use lib.Bits.{bit_or, or_shifted_r}
use lib.Dec.{T, leb, leb→le}
use lib.Pow.{pow-add, shl_exact, mod-pow-add}
use Rattle.std.specs.Prelude.{Some, Result}
use Rattle.format.specs.declared.refusal.Refusal.{Refusal}
use Rattle.word_opcodes.specs.Lopcodes.{◌<<◌, ◌∣◌}
use Rattle.word_opcodes.specs.declared.opcode.Opcode54.{Opcode54}
use Rattle.word_opcodes.specs.declared.opcode.OpMode54.{OpMode54}
use Rattle.word_fields.specs.declared.instruction.RawInstruction54.{RawInstruction54}
use Rattle.word_opcodes.specs.Table.{mode_of}
use Rattle.word_fields.specs.Word.{at, bits, by_mode, by_opcode, encoded}

pub record Built (x s p : ℕ) : Type 0 where
  pub is : x ≡ s
  pub below : s < 2 ^ p

pub add : (n v : ℕ) {x s p : ℕ} → Built x s p → v < 2 ^ n → T (leb (n + p) 32) → Built (x ∣ (v << p)) (s + at p v) (n + p)
add n v {x} {s} {p} b h t = record {
  is = ap (λ y. y ∣ (v << p)) b.is
      ∙ ap (bit_or s) (shl_exact n p 32 h (leb→le (n + p) 32 t))
      ∙ or_shifted_r v p s b.below
      ∙ add_comm (v * 2 ^ p) s;
  below = rw (add_comm s (at p v), pow-add 2 n p) (digits_lt h b.below);
}

pub low_bits : (p n w : ℕ) → w % 2 ^ p + at p (bits p n w) ≡ w % 2 ^ (n + p)
low_bits p n w = add_comm (w % 2 ^ p) (at p (bits p n w)) ∙ sym (mod-pow-add w n p)

pub chosen : (r : RawInstruction54) {o : Opcode54} {m m' : OpMode54} {u : Result ℕ Refusal}
    → r.opcode ≡ Some o → m ≡ mode_of o → m ≡ m' → u ≡ by_mode m' o r → u ≡ encoded r
unfolding encoded
chosen r {o} f e k u = u ∙ ap (λ x. by_mode x o r) (sym k ∙ e) ∙ ap (λ x. by_opcode x r) (sym f)
