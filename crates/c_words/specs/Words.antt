-- The numbers of instruction words.
--     word_numbers r        a word's fields: opcode, mode, a, k, b, sb, c, sc, bx, sbx, ax, sj
--     spelt op a k ..      the fields of a word that is asked for (sb and sc are not looked at)
use Rattle.std.specs.Prelude.{Option, Some, None, Result, Ok, Err}
use Rattle.format.specs.declared.refusal.Refusal.{Refusal}
use Rattle.word_opcodes.specs.declared.opcode.Opcode54.{Opcode54}
use Rattle.std.specs.Prelude.{List, [], ◌∷◌, ℕ, ℤ, pos}
use Rattle.word_opcodes.specs.Table.{opcode_at, mode_of, mode_number}
use Rattle.word_fields.specs.declared.instruction.RawInstruction54.{RawInstruction54}
use Rattle.c_boundary.specs.Status.{Answer, done, refuses, complement}

-- 0 iABC, 1 iABx, 2 i_as_bx, 3 i_ax, 4 isJ; 5 where there is no such opcode
abbrev pub mode_or_none : Option Opcode54 → ℕ
mode_or_none (Some o) = mode_number (mode_of o)
mode_or_none None = 5

abbrev pub word_numbers : RawInstruction54 → List ℕ
word_numbers r =
    r.opcode_num
    ∷ mode_or_none r.opcode
    ∷ r.a
    ∷ r.k
    ∷ r.b
    ∷ complement r.sb
    ∷ r.c
    ∷ complement r.sc
    ∷ r.bx
    ∷ complement r.sbx
    ∷ r.ax
    ∷ complement r.sj
    ∷ []

abbrev pub spelt : ℕ → ℕ → ℕ → ℕ → ℕ → ℕ → ℤ → ℕ → ℤ → RawInstruction54
spelt op a k b c bx sbx ax sj = record {
  opcode_num = op;
  opcode = opcode_at op;
  a = a;
  k = k;
  b = b;
  sb = pos 0;
  c = c;
  sc = pos 0;
  bx = bx;
  sbx = sbx;
  ax = ax;
  sj = sj;
}

abbrev pub of_encoded : Result ℕ Refusal → Answer
of_encoded (Ok w) = done (w ∷ [])
of_encoded (Err q) = refuses q
