-- The words that are encoded are what lopcodes.h's macros make.
--     created      the macros' word of an opcode's number and of the fields that a mode uses
--     words        each word that is encoded is that of its opcode's mode
-- Assumes nothing.
use mathlib.Core.Path.{◌≡◌, refl, sym, ap, ap₂, ◌∙◌}
use mathlib.Core.Bool.{Bool, true, false, cond}
use Prim.Native.Nat.{ℕ, ◌+◌, ◌*◌, ◌<◌, ◌^◌}
use native.Mathlib.Nat.{mod-eq_of_lt}
use native.Mathlib.Omega.{arith}
use lib.Bits.{bit_or, or_block, or_zero_r, or_shifted_r}
use lib.Dec.{ltb}
use lib.IntN.{ℤ, pos, negsuc, ◌+ℤ◌}
use borrow.Author.Tests.{ltb-true}
use Rattle.std.specs.Prelude.{Some, None, Result, Ok, Err}
use Rattle.format.specs.declared.refusal.Refusal.{Refusal}
use Rattle.format.specs.declared.refusal.Refusal.TheVariants.{FieldRange}
use Rattle.word_opcodes.specs.declared.opcode.Opcode54.{Opcode54}
use Rattle.word_opcodes.specs.declared.opcode.OpMode54.{OpMode54}
use Rattle.word_opcodes.specs.declared.opcode.OpMode54.TheVariants.{IABC, IABx, IAsBx, IAx, IsJ}
use Rattle.word_fields.specs.declared.instruction.RawInstruction54.{RawInstruction54}
use Rattle.word_opcodes.specs.Lopcodes.{◌<<◌, ◌∣◌, cast_uint, CREATE-ABCk, CREATE-ABx, CREATE-Ax, CREATE-sJ}
use Rattle.word_opcodes.specs.Lopcodes.{POS-OP, POS-A, POS-k, POS-B, POS-C, POS-Bx, POS-Ax, SIZE-OP, SIZE-A, SIZE-B, SIZE-C, SIZE-Bx, SIZE-Ax, SIZE-sJ}
use Rattle.word_opcodes.specs.Lopcodes.{OFFSET-sBx, OFFSET-sJ}
use Rattle.word_opcodes.specs.Table.{number_of, mode_of}
use Rattle.word_fields.specs.Word.{at, unbiased, with_unbiased, encodedIABx, encodedIAx, by_mode, encoded}
use Rattle.word_opcodes.proofs.Opcodes.{number_lt}
use Rattle.word_fields.proofs.Words.{Built, add, chosen}

-- a signed field has its offset added first, as lcode.c does (luaK_codeAsBx, codesJ)
abbrev pub created : OpMode54 → ℕ → RawInstruction54 → ℕ
created IABC o r = CREATE-ABCk o r.a r.b r.c r.k
created IABx o r = CREATE-ABx o r.a r.bx
created IAsBx o r = CREATE-ABx o r.a (cast_uint (r.sbx +ℤ pos OFFSET-sBx))
created IAx o r = CREATE-Ax o r.ax
created IsJ o r = CREATE-sJ o (cast_uint (r.sj +ℤ pos OFFSET-sJ)) 0

-- A, B and C are bytes
pub record Bytes (r : RawInstruction54) : Type 0 where
  pub a : r.a < 2 ^ 8
  pub b : r.b < 2 ^ 8
  pub c : r.c < 2 ^ 8

module _ (o : ℕ) (ho : o < 2 ^ SIZE-OP) where
  opcode : Built (o << POS-OP) o SIZE-OP
  opcode = record { is = omega arith; below = ho }

  of_ax : (v : ℕ) → v < 2 ^ SIZE-Ax → CREATE-Ax o v ≡ o + at POS-Ax v
  of_ax v hv = (add SIZE-Ax v opcode hv tt).is

  module _ (a : ℕ) (ha : a < 2 ^ SIZE-A) where
    of_abx : (v : ℕ) → v < 2 ^ SIZE-Bx → CREATE-ABx o a v ≡ o + at POS-A a + at POS-Bx v
    of_abx v hv = (add SIZE-Bx v (add SIZE-A a opcode ha tt) hv tt).is

    -- the macro has k last, below B and C: these and the bits below k are or-ed apart
    of_abc : (b c k : ℕ) → b < 2 ^ SIZE-B → c < 2 ^ SIZE-C → k < 2
        → CREATE-ABCk o a b c k ≡ o + at POS-A a + at POS-k k + at POS-B b + at POS-C c
    of_abc b c k hb hc hk =
        let low = add SIZE-A a opcode ha tt in
        let s = o + at POS-A a in
        let wide : Built ((o << POS-OP) ∣ (a << POS-A)) s POS-B = record { is = low.is; below = omega (arith, low.below) } in
        let high : s + at POS-B b + at POS-C c ≡ (b + c * 256) * 2 ^ POS-B + s = omega arith in
        let bit : k << POS-k ≡ 0 * 2 ^ POS-B + at POS-k k = omega arith in
        ap (λ x. x ∣ (k << POS-k)) ((add SIZE-C c (add SIZE-B b wide hb tt) hc tt).is ∙ high)
        ∙ ap (bit_or ((b + c * 256) * 2 ^ POS-B + s)) bit
        ∙ or_block POS-B (b + c * 256) 0 s (at POS-k k) wide.below (omega arith)
        ∙ ap₂ (λ x y. x * 2 ^ POS-B + y) (or_zero_r (b + c * 256)) (or_shifted_r k POS-k s low.below)
        ∙ omega arith

-- an answer that is a word
picked : (t : Bool) (s : ℕ) {w : ℕ} → cond t (Ok s) (Err FieldRange) ≡ Ok w → (t ≡ true) × (s ≡ w)
picked true s e = (refl, cc)
picked false s e = let z : ◌≡◌ {A = ℕ} 0 1 = cc in absurd (omega arith)

-- with a signed field in it
unpicked : (z : ℤ) (limit : ℕ) (f : ℕ → Result ℕ Refusal) {w : ℕ} → with_unbiased (unbiased z limit) f ≡ Ok w
    → (n : ℕ) × (z ≡ pos n) × (f n ≡ Ok w)
unpicked (pos n) limit f {w} e = go (ltb n limit) refl
  where
    go : (t : Bool) → ltb n limit ≡ t → (m : ℕ) × (pos n ≡ pos m) × (f m ≡ Ok w)
    go true s = (n, refl, sym (ap (λ x. with_unbiased (cond x (Some n) None) f) s) ∙ e)
    go false s =
        let none : Err FieldRange ≡ Ok w = sym (ap (λ x. with_unbiased (cond x (Some n) None) f) s) ∙ e in
        let z : ◌≡◌ {A = ℕ} 0 1 = cc in
        absurd (omega arith)
unpicked (negsuc n) limit f e = let z : ◌≡◌ {A = ℕ} 0 1 = cc in absurd (omega arith)

module _ (o : Opcode54) where
  low : number_of o < 2 ^ SIZE-OP
  low = omega (arith, number_lt o)

  is_abx : {w : ℕ} (a v : ℕ) → a < 2 ^ 8 → encodedIABx o a v ≡ Ok w
      → (w ≡ CREATE-ABx (number_of o) a v) × (v < 2 ^ SIZE-Bx)
  is_abx a v ha e =
      let p = picked (ltb v (2 ^ SIZE-Bx)) _ e in
      let hv = ltb-true v (2 ^ SIZE-Bx) p.0 in
      (sym (of_abx (number_of o) low a ha v hv ∙ p.1), hv)

  is_ax : {w : ℕ} (v : ℕ) → encodedIAx o v ≡ Ok w → (w ≡ CREATE-Ax (number_of o) v) × (v < 2 ^ SIZE-Ax)
  is_ax v e =
      let p = picked (ltb v (2 ^ SIZE-Ax)) _ e in
      let hv = ltb-true v (2 ^ SIZE-Ax) p.0 in
      (sym (of_ax (number_of o) low v hv ∙ p.1), hv)

  by_mode_lem : {w : ℕ} (r : RawInstruction54) → Bytes r → (m : OpMode54) → by_mode m o r ≡ Ok w
      → w ≡ created m (number_of o) r
  by_mode_lem r h IABC e =
      let p = picked (ltb r.k 2) _ e in
      sym (of_abc (number_of o) low r.a h.a r.b r.c r.k h.b h.c (ltb-true r.k 2 p.0) ∙ p.1)
  by_mode_lem r h IABx e = (is_abx r.a r.bx h.a e).0
  by_mode_lem r h IAsBx e =
      let u = unpicked (r.sbx +ℤ pos OFFSET-sBx) (2 ^ SIZE-Bx) (encodedIABx o r.a) e in
      let p = is_abx r.a u.0 h.a u.2 in
      p.0 ∙ ap (CREATE-ABx (number_of o) r.a) (sym (ap cast_uint u.1 ∙ mod-eq_of_lt (omega arith)))
  by_mode_lem r h IAx e = (is_ax r.ax e).0
  by_mode_lem r h IsJ e =
      let u = unpicked (r.sj +ℤ pos OFFSET-sJ) (2 ^ SIZE-sJ) (encodedIAx o) e in
      let p = is_ax u.0 u.2 in
      p.0 ∙ sym (or_zero_r (CREATE-Ax (number_of o) u.0))
      ∙ ap (λ v. CREATE-sJ (number_of o) v 0) (sym (ap cast_uint u.1 ∙ mod-eq_of_lt (omega arith)))

pub words : (r : RawInstruction54) → Bytes r → (o : Opcode54) (w : ℕ) → r.opcode ≡ Some o → encoded r ≡ Ok w
    → w ≡ created (mode_of o) (number_of o) r
words r h o w f e = by_mode_lem o r h (mode_of o) (chosen r f refl refl refl ∙ e)
