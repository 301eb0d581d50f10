-- The opcodes of each mode but iABC, by number (lopcodes.c, luaP_opmodes), and the names of some numbers (lopcodes.h, OpCode); antt computes each.
--     modes_hold       LOADI, LOADF; LOADK, LOADKX, FORLOOP, FORPREP, TFORPREP, TFORLOOP, CLOSURE; EXTRAARG; JMP: all other opcodes are iABC
--     names_hold       the opcodes that validation names, and the last of all
--     all_names_hold   every opcode, by number
-- Told apart: an opcode of another mode, two modes exchanged, two names exchanged, one number too many.
-- Assumes nothing.
use mathlib.Core.Path.{◌≡◌, refl}
use mathlib.Core.List.{List, [], ◌∷◌, ◌++◌, map}
use mathlib.Core.Bool.{Bool, true, false}
use Prim.Native.Nat.{ℕ, zero, suc}
use lib.Dec.{eqb}
use Rattle.std.specs.Prelude.{Option, Some, None}
use Rattle.word_opcodes.specs.declared.opcode.Opcode54.{Opcode54}
use Rattle.word_opcodes.specs.declared.opcode.Opcode54.TheVariants as op
use Rattle.word_opcodes.specs.Table.{opcode_at, mode_of, mode_number}

-- the mode of a number; 5 where it is no opcode's
abbrev mode : Option Opcode54 → ℕ
mode (Some o) = mode_number (mode_of o)
mode None = 5

abbrev if_true : Bool → ℕ → List ℕ
if_true true n = n ∷ []
if_true false n = []

-- the numbers below n that have this mode
of_mode : ℕ → ℕ → List ℕ
of_mode m zero = []
of_mode m (suc n) = of_mode m n ++ if_true (eqb (mode (opcode_at n)) m) n

-- iABx, i_as_bx, i_ax, isJ; and no opcode
modes_hold : map (λ m. of_mode m 86) (1 ∷ 2 ∷ 3 ∷ 4 ∷ 5 ∷ [])
    ≡ (3 ∷ 4 ∷ 73 ∷ 74 ∷ 75 ∷ 77 ∷ 79 ∷ []) ∷ (1 ∷ 2 ∷ []) ∷ (82 ∷ []) ∷ (56 ∷ []) ∷ (83 ∷ 84 ∷ 85 ∷ []) ∷ []
unfolding of_mode
modes_hold = refl

names_hold : map opcode_at (0 ∷ 3 ∷ 9 ∷ 10 ∷ 11 ∷ 15 ∷ 56 ∷ 71 ∷ 79 ∷ 81 ∷ 82 ∷ [])
    ≡ Some op.Move ∷ Some op.Loadk ∷ Some op.Getupval ∷ Some op.Setupval ∷ Some op.Gettabup ∷ Some op.Settabup ∷ Some op.Jmp ∷ Some op.Return0 ∷ Some op.Closure ∷ Some op.Varargprep ∷ Some op.Extraarg ∷ []
names_hold = refl

-- ## All names
-- n + 1 numbers, from 0 up
up_to : ℕ → List ℕ
up_to zero = 0 ∷ []
up_to (suc n) = up_to n ++ (suc n ∷ [])

-- as the Rust's `from_u8` has them
all_names_hold : map opcode_at (up_to 82) ≡ map Some (
    op.Move ∷ op.Loadi ∷ op.Loadf ∷ op.Loadk ∷ op.Loadkx ∷ op.Loadfalse ∷ op.Lfalseskip ∷ op.Loadtrue ∷ op.Loadnil ∷
    op.Getupval ∷ op.Setupval ∷ op.Gettabup ∷ op.Gettable ∷ op.Geti ∷ op.Getfield ∷ op.Settabup ∷ op.Settable ∷ op.Seti ∷
    op.Setfield ∷ op.Newtable ∷ op.SelfOp ∷ op.Addi ∷ op.Addk ∷ op.Subk ∷ op.Mulk ∷ op.Modk ∷ op.Powk ∷
    op.Divk ∷ op.Idivk ∷ op.Bandk ∷ op.Bork ∷ op.Bxork ∷ op.Shri ∷ op.Shli ∷ op.Add ∷ op.Sub ∷
    op.Mul ∷ op.Mod ∷ op.Pow ∷ op.Div ∷ op.Idiv ∷ op.Band ∷ op.Bor ∷ op.Bxor ∷ op.Shl ∷
    op.Shr ∷ op.Mmbin ∷ op.Mmbini ∷ op.Mmbink ∷ op.Unm ∷ op.Bnot ∷ op.Not ∷ op.Len ∷ op.Concat ∷
    op.Close ∷ op.Tbc ∷ op.Jmp ∷ op.Eq ∷ op.Lt ∷ op.Le ∷ op.Eqk ∷ op.Eqi ∷ op.Lti ∷
    op.Lei ∷ op.Gti ∷ op.Gei ∷ op.Test ∷ op.Testset ∷ op.Call ∷ op.Tailcall ∷ op.Return ∷ op.Return0 ∷
    op.Return1 ∷ op.Forloop ∷ op.Forprep ∷ op.Tforprep ∷ op.Tforcall ∷ op.Tforloop ∷ op.Setlist ∷ op.Closure ∷ op.Vararg ∷
    op.Varargprep ∷ op.Extraarg ∷ []
    )
unfolding up_to
all_names_hold = refl
