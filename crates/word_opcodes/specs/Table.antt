-- The table of the opcodes (lopcodes.h, OpCode, with the names of the Rust).
--     opcodes         the 83 opcodes, by number
--     opcode_at n      the opcode of number n, if there is one
--     number_of        an opcode's number
--     modes, mode_number       the five modes, and a mode's number
--     mode_of          an opcode's mode
use Rattle.std.specs.Prelude.{cond, ℕ, List, [], ◌∷◌, ltb, get_or, Option, Some, None}
use Rattle.word_opcodes.specs.declared.opcode.Opcode54.{Opcode54}
use Rattle.word_opcodes.specs.declared.opcode.Opcode54.TheVariants as op
use Rattle.word_opcodes.specs.declared.opcode.OpMode54.{OpMode54}
use Rattle.word_opcodes.specs.declared.opcode.OpMode54.TheVariants.{IABC, IABx, IAsBx, IAx, IsJ}
use Rattle.word_opcodes.specs.Lopcodes.{iABC, iABx, i_as_bx, i_ax, isJ, NUM-OPCODES, luaP_opmodes}

abbrev pub opcodes : List Opcode54
opcodes =
    op.Move ∷ op.Loadi ∷ op.Loadf ∷ op.Loadk ∷ op.Loadkx ∷ op.Loadfalse ∷ op.Lfalseskip ∷ op.Loadtrue ∷ op.Loadnil ∷
    op.Getupval ∷ op.Setupval ∷ op.Gettabup ∷ op.Gettable ∷ op.Geti ∷ op.Getfield ∷ op.Settabup ∷ op.Settable ∷
    op.Seti ∷ op.Setfield ∷ op.Newtable ∷ op.SelfOp ∷ op.Addi ∷ op.Addk ∷ op.Subk ∷ op.Mulk ∷ op.Modk ∷ op.Powk ∷
    op.Divk ∷ op.Idivk ∷ op.Bandk ∷ op.Bork ∷ op.Bxork ∷ op.Shri ∷ op.Shli ∷ op.Add ∷ op.Sub ∷ op.Mul ∷ op.Mod ∷
    op.Pow ∷ op.Div ∷ op.Idiv ∷ op.Band ∷ op.Bor ∷ op.Bxor ∷ op.Shl ∷ op.Shr ∷ op.Mmbin ∷ op.Mmbini ∷ op.Mmbink ∷
    op.Unm ∷ op.Bnot ∷ op.Not ∷ op.Len ∷ op.Concat ∷ op.Close ∷ op.Tbc ∷ op.Jmp ∷ op.Eq ∷ op.Lt ∷ op.Le ∷ op.Eqk ∷
    op.Eqi ∷ op.Lti ∷ op.Lei ∷ op.Gti ∷ op.Gei ∷ op.Test ∷ op.Testset ∷ op.Call ∷ op.Tailcall ∷ op.Return ∷
    op.Return0 ∷ op.Return1 ∷ op.Forloop ∷ op.Forprep ∷ op.Tforprep ∷ op.Tforcall ∷ op.Tforloop ∷ op.Setlist ∷
    op.Closure ∷ op.Vararg ∷ op.Varargprep ∷ op.Extraarg ∷ []

abbrev pub opcode_at : ℕ → Option Opcode54
opcode_at n = cond (ltb n NUM-OPCODES) (Some (get_or opcodes n op.Move)) None

abbrev pub number_of : Opcode54 → ℕ
number_of op.Move = 0
number_of op.Loadi = 1
number_of op.Loadf = 2
number_of op.Loadk = 3
number_of op.Loadkx = 4
number_of op.Loadfalse = 5
number_of op.Lfalseskip = 6
number_of op.Loadtrue = 7
number_of op.Loadnil = 8
number_of op.Getupval = 9
number_of op.Setupval = 10
number_of op.Gettabup = 11
number_of op.Gettable = 12
number_of op.Geti = 13
number_of op.Getfield = 14
number_of op.Settabup = 15
number_of op.Settable = 16
number_of op.Seti = 17
number_of op.Setfield = 18
number_of op.Newtable = 19
number_of op.SelfOp = 20
number_of op.Addi = 21
number_of op.Addk = 22
number_of op.Subk = 23
number_of op.Mulk = 24
number_of op.Modk = 25
number_of op.Powk = 26
number_of op.Divk = 27
number_of op.Idivk = 28
number_of op.Bandk = 29
number_of op.Bork = 30
number_of op.Bxork = 31
number_of op.Shri = 32
number_of op.Shli = 33
number_of op.Add = 34
number_of op.Sub = 35
number_of op.Mul = 36
number_of op.Mod = 37
number_of op.Pow = 38
number_of op.Div = 39
number_of op.Idiv = 40
number_of op.Band = 41
number_of op.Bor = 42
number_of op.Bxor = 43
number_of op.Shl = 44
number_of op.Shr = 45
number_of op.Mmbin = 46
number_of op.Mmbini = 47
number_of op.Mmbink = 48
number_of op.Unm = 49
number_of op.Bnot = 50
number_of op.Not = 51
number_of op.Len = 52
number_of op.Concat = 53
number_of op.Close = 54
number_of op.Tbc = 55
number_of op.Jmp = 56
number_of op.Eq = 57
number_of op.Lt = 58
number_of op.Le = 59
number_of op.Eqk = 60
number_of op.Eqi = 61
number_of op.Lti = 62
number_of op.Lei = 63
number_of op.Gti = 64
number_of op.Gei = 65
number_of op.Test = 66
number_of op.Testset = 67
number_of op.Call = 68
number_of op.Tailcall = 69
number_of op.Return = 70
number_of op.Return0 = 71
number_of op.Return1 = 72
number_of op.Forloop = 73
number_of op.Forprep = 74
number_of op.Tforprep = 75
number_of op.Tforcall = 76
number_of op.Tforloop = 77
number_of op.Setlist = 78
number_of op.Closure = 79
number_of op.Vararg = 80
number_of op.Varargprep = 81
number_of op.Extraarg = 82

-- lopcodes.h, OpMode: the modes, by number
abbrev pub modes : List OpMode54
modes = IABC ∷ IABx ∷ IAsBx ∷ IAx ∷ IsJ ∷ []

abbrev pub mode_number : OpMode54 → ℕ
mode_number IABC = iABC
mode_number IABx = iABx
mode_number IAsBx = i_as_bx
mode_number IAx = i_ax
mode_number IsJ = isJ

-- the mode that lopcodes.c has at the opcode's number
abbrev pub mode_of : Opcode54 → OpMode54
mode_of o = get_or modes (get_or luaP_opmodes (number_of o) iABC) IABC
