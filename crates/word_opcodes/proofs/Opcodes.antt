-- The table of the opcodes, read both ways. Each law is a test that antt computes.
--     tag_number       an opcode's number is the position of its variant
--     number_lt        it is below 83
--     at-number        the table has at an opcode's number that opcode
--     number_at        and at n the opcode whose number is n
--     opcode_number        so n names the opcode o exactly when it is o's number
--     mode_number_lem      an opcode's mode is the one that lopcodes.c has at its number
-- Assumes nothing.
use mathlib.Core.Path.{◌≡◌, refl, sym, ap, ◌∙◌}
use mathlib.Core.Bool.{Bool, true, false, cond}
use mathlib.Core.Logic.{◌↔◌}
use Prim.Native.Nat.{ℕ, ◌<◌}
use native.Mathlib.Omega.{arith}
use lib.Dec.{eqb, eqb→eq, ltb, lit<}
use lib.ListN.{get_or}
use borrow.Author.Tests.{lt-ltb, ltb-true}
use denote.Enum.Declared.{tag_of}
use Rattle.std.specs.Prelude.{Some, None}
use Rattle.word_opcodes.specs.declared.opcode.Opcode54.{Opcode54}
use Rattle.word_opcodes.specs.declared.opcode.Opcode54.TheVariants.{Move}
use Rattle.word_opcodes.specs.Lopcodes.{iABC, luaP_opmodes}
use Rattle.word_opcodes.specs.Table.{opcodes, opcode_at, number_of, mode_number, mode_of}
use Rattle.word_opcodes.specs.contracts.opcode.Opcode54.{enum, the_type}
use Rattle.word_opcodes.proofs.Tests.{at}
use Rattle.word_opcodes.proofs.Variants.{of_every, same}

pub tag_number : (o : Opcode54) → tag_of the_type o ≡ number_of o
tag_number o = eqb→eq _ _ (of_every enum (λ o. eqb (tag_of the_type o) (number_of o)) tt o)

pub number_lt : (o : Opcode54) → number_of o < 83
number_lt o = lit< (of_every enum (λ o. ltb (number_of o) 83) tt o)

pub at-number : (o : Opcode54) → get_or opcodes (number_of o) Move ≡ o
at-number o =
    same enum tt _ _ (of_every enum (λ o. eqb (tag_of the_type (get_or opcodes (number_of o) Move)) (tag_of the_type o)) tt o)

pub number_at : (n : ℕ) → n < 83 → number_of (get_or opcodes n Move) ≡ n
number_at n h = eqb→eq _ _ (at 83 (λ n. eqb (number_of (get_or opcodes n Move)) n) tt n h)

pub opcode_number : (n : ℕ) (o : Opcode54) → (opcode_at n ≡ Some o) ↔ (n ≡ number_of o)
opcode_number n o = (λ e. go e (ltb n 83) refl, λ e. ap opcode_at e ∙ named)
  where
    named : opcode_at (number_of o) ≡ Some o
    named = rw (lt-ltb (number_of o) 83 (number_lt o)) (ap Some (at-number o))

    go : opcode_at n ≡ Some o → (t : Bool) → ltb n 83 ≡ t → n ≡ number_of o
    go e true s =
        let found : Some (get_or opcodes n Move) ≡ Some o = sym (ap (λ t. cond t (Some (get_or opcodes n Move)) None) s) ∙ e in
        let here : get_or opcodes n Move ≡ o = cc in
        sym (number_at n (ltb-true n 83 s)) ∙ ap number_of here
    go e false s =
        let none : None ≡ Some o = sym (ap (λ t. cond t (Some (get_or opcodes n Move)) None) s) ∙ e in
        let z : ◌≡◌ {A = ℕ} 0 1 = cc in
        absurd (omega arith)

pub mode_number_lem : (o : Opcode54) → mode_number (mode_of o) ≡ get_or luaP_opmodes (number_of o) iABC
mode_number_lem o = eqb→eq _ _ (of_every enum (λ o. eqb (mode_number (mode_of o)) (get_or luaP_opmodes (number_of o) iABC)) tt o)
