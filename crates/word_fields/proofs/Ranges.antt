-- The ranges of 01, 'opcodes.rs': encoding answers a word exactly where each field that the opcode's mode uses is in its range.
--     inRange      the ranges, as 01 prints them
--     ranges       where there is an opcode, they say whether the answer is a word
-- Assumes nothing.
use mathlib.Core.Path.{◌≡◌, refl, sym, ap, ◌∙◌}
use mathlib.Core.Bool.{Bool, true, false, ◌&&◌, cond}
use Prim.Native.Nat.{ℕ, suc, ◌+◌, ◌-◌, ◌≤◌, ◌^◌}
use native.Mathlib.Omega.{arith}
use lib.Dec.{ltb, leb}
use lib.IntN.{ℤ, pos, negsuc, sub_ℕ, ◌+ℤ◌}
use lib.Signed.{le_z}
use borrow.Author.Tests.{lt-ltb, le-ltb, leb-true, leb-false}
use Rattle.std.specs.Prelude.{Option, Some, None, Result, Ok, Err}
use Rattle.format.specs.declared.refusal.Refusal.{Refusal}
use Rattle.format.specs.declared.refusal.Refusal.TheVariants.{FieldRange}
use Rattle.word_opcodes.specs.declared.opcode.Opcode54.{Opcode54}
use Rattle.word_opcodes.specs.declared.opcode.OpMode54.{OpMode54}
use Rattle.word_opcodes.specs.declared.opcode.OpMode54.TheVariants.{IABC, IABx, IAsBx, IAx, IsJ}
use Rattle.word_fields.specs.declared.instruction.RawInstruction54.{RawInstruction54}
use Rattle.word_opcodes.specs.Table.{mode_of}
use Rattle.word_fields.specs.Word.{unbiased, with_unbiased, encodedIABx, encodedIAx, by_mode, encoded}
use Rattle.word_fields.proofs.Words.{chosen}

-- k is 0 or 1. `negsuc n` is -(n + 1)
abbrev pub in_range : OpMode54 → RawInstruction54 → Bool
in_range IABC r = ltb r.k 2
in_range IABx r = ltb r.bx 131072
in_range IAsBx r = le_z (negsuc 65534) r.sbx && le_z r.sbx (pos 65536)
in_range IAx r = ltb r.ax (2 ^ 25)
in_range IsJ r = le_z (negsuc 16777214) r.sj && le_z r.sj (pos 16777216)

abbrev pub is_word : Result ℕ Refusal → Bool
is_word (Ok w) = true
is_word (Err x) = false

abbrev is_in : Option ℕ → Bool
is_in (Some n) = true
is_in None = false

of_pick : (t : Bool) (n : ℕ) → is_in (cond t (Some n) None) ≡ t
of_pick true n = refl
of_pick false n = refl

-- an offset k + 1 and twice as many numbers reach from -(k + 1) to k + 2
signed : (k : ℕ) (z : ℤ) → is_in (unbiased (z +ℤ pos (suc k)) (suc k + suc k + 2)) ≡ le_z (negsuc k) z && le_z z (pos (suc k + 1))
signed k (pos n) = of_pick (ltb (n + suc k) (suc k + suc k + 2)) (n + suc k) ∙ go (leb n (suc k + 1)) refl
  where
    go : (t : Bool) → leb n (suc k + 1) ≡ t → ltb (n + suc k) (suc k + suc k + 2) ≡ leb n (suc k + 1)
    go true e = lt-ltb (n + suc k) (suc k + suc k + 2) (omega (arith, leb-true n (suc k + 1) e)) ∙ sym e
    go false e = le-ltb (n + suc k) (suc k + suc k + 2) (omega (arith, leb-false n (suc k + 1) e)) ∙ sym e
signed k (negsuc n) = go (leb n k) refl
  where
    go : (t : Bool) → leb n k ≡ t → is_in (unbiased (sub_ℕ (suc k) (suc n)) (suc k + suc k + 2)) ≡ leb n k && true
    go true e =
        let h : n ≤ k = leb-true n k e in
        rw (le-ltb (suc k) (suc n) (omega arith), e)
        (of_pick (ltb (suc k - suc n) (suc k + suc k + 2)) (suc k - suc n) ∙ lt-ltb (suc k - suc n) (suc k + suc k + 2) (omega arith))
    go false e = rw (lt-ltb (suc k) (suc n) (omega (arith, leb-false n k e)), e)

-- what is handed on makes a word
handed : (z : ℤ) (limit : ℕ) (f : ℕ → Result ℕ Refusal) → ((n : ℕ) → is_word (f n) ≡ ltb n limit)
    → is_word (with_unbiased (unbiased z limit) f) ≡ is_in (unbiased z limit)
handed (pos n) limit f h = go (ltb n limit) refl
  where
    go : (t : Bool) → ltb n limit ≡ t → is_word (with_unbiased (cond (ltb n limit) (Some n) None) f)
        ≡ is_in (cond (ltb n limit) (Some n) None)
    go true e = rw e (h n ∙ e)
    go false e = rw e
handed (negsuc n) limit f h = refl

of_word : (t : Bool) (s : ℕ) → is_word (cond t (Ok s) (Err FieldRange)) ≡ t
of_word true s = refl
of_word false s = refl

by_mode_lem : (m : OpMode54) (o : Opcode54) (r : RawInstruction54) → is_word (by_mode m o r) ≡ in_range m r
by_mode_lem IABC o r = of_word (ltb r.k 2) _
by_mode_lem IABx o r = of_word (ltb r.bx 131072) _
by_mode_lem IAsBx o r = handed (r.sbx +ℤ pos 65535) 131072 (encodedIABx o r.a) (λ n. of_word (ltb n 131072) _) ∙ signed 65534 r.sbx
by_mode_lem IAx o r = of_word (ltb r.ax (2 ^ 25)) _
by_mode_lem IsJ o r = handed (r.sj +ℤ pos 16777215) (2 ^ 25) (encodedIAx o) (λ n. of_word (ltb n (2 ^ 25)) _) ∙ signed 16777214 r.sj

pub ranges : (r : RawInstruction54) (o : Opcode54) → r.opcode ≡ Some o → is_word (encoded r) ≡ in_range (mode_of o) r
ranges r o f = ap is_word (sym (chosen r f refl refl refl)) ∙ by_mode_lem (mode_of o) o r
