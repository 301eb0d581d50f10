-- lopcodes.h and lopcodes.c of Lua 5.4.4: the sizes and positions of an instruction's fields, the macros that read and make a word, and each opcode's mode.
-- A definition has its macro's name, with `-` for `_`, and its macro's text. An Instruction is an unsigned number of 32 bits.
-- Left out are what changes a word in place (SET_OPCODE, SETARG_*, MASK0), what asks something of a word or a table that nothing here asks (TESTARG_k, checkopm, int2sC, isOT, isIT), the columns of
-- luaP_opmodes but `mode` with the macros for them (opmode, getOpMode, test*Mode), and what is for the code generator (MAXINDEXRK, NO_REG, LFIELDS_PER_FLUSH).
use Rattle.std.specs.Prelude.{ℕ, ◌+◌, ◌-◌, ◌*◌, ◌/◌, ◌%◌, ◌^◌, List, [], ◌∷◌, ℤ, pos, negsuc, ◌-ℤ◌}
use Rattle.std.specs.Int.Bits.{bit_and, bit_or}

infix 80 ~◌
infixl 60 ◌<<◌ ◌>>◌
infixl 55 ◌&◌
infixl 54 ◌∣◌
-- ---- C's operators on an Instruction: <<, >>, ~, & and |
abbrev pub ◌<<◌ : ℕ → ℕ → ℕ
i << n = i * 2 ^ n % 2 ^ 32

abbrev pub ◌>>◌ : ℕ → ℕ → ℕ
i >> n = i / 2 ^ n

abbrev pub ~◌ : ℕ → ℕ
~ i = 2 ^ 32 - 1 - i

abbrev pub ◌&◌ : ℕ → ℕ → ℕ
i & m = bit_and i m

abbrev pub ◌∣◌ : ℕ → ℕ → ℕ
i ∣ j = bit_or i j

-- ---- enum OpMode {iABC, iABx, i_as_bx, i_ax, isJ}
abbrev pub iABC : ℕ
iABC = 0

abbrev pub iABx : ℕ
iABx = 1

abbrev pub i_as_bx : ℕ
i_as_bx = 2

abbrev pub i_ax : ℕ
i_ax = 3

abbrev pub isJ : ℕ
isJ = 4

-- ---- size and position of opcode arguments
abbrev pub SIZE-C : ℕ
SIZE-C = 8

abbrev pub SIZE-B : ℕ
SIZE-B = 8

abbrev pub SIZE-Bx : ℕ
SIZE-Bx = SIZE-C + SIZE-B + 1

abbrev pub SIZE-A : ℕ
SIZE-A = 8

abbrev pub SIZE-Ax : ℕ
SIZE-Ax = SIZE-Bx + SIZE-A

abbrev pub SIZE-sJ : ℕ
SIZE-sJ = SIZE-Bx + SIZE-A

abbrev pub SIZE-OP : ℕ
SIZE-OP = 7

abbrev pub POS-OP : ℕ
POS-OP = 0

abbrev pub POS-A : ℕ
POS-A = POS-OP + SIZE-OP

abbrev pub POS-k : ℕ
POS-k = POS-A + SIZE-A

abbrev pub POS-B : ℕ
POS-B = POS-k + 1

abbrev pub POS-C : ℕ
POS-C = POS-B + SIZE-B

abbrev pub POS-Bx : ℕ
POS-Bx = POS-k

abbrev pub POS-Ax : ℕ
POS-Ax = POS-A

abbrev pub POS-sJ : ℕ
POS-sJ = POS-A

-- ---- limits for opcode arguments
abbrev pub MAXARG-Bx : ℕ
MAXARG-Bx = (1 << SIZE-Bx) - 1

abbrev pub OFFSET-sBx : ℕ
OFFSET-sBx = MAXARG-Bx >> 1

abbrev pub MAXARG-Ax : ℕ
MAXARG-Ax = (1 << SIZE-Ax) - 1

abbrev pub MAXARG-sJ : ℕ
MAXARG-sJ = (1 << SIZE-sJ) - 1

abbrev pub OFFSET-sJ : ℕ
OFFSET-sJ = MAXARG-sJ >> 1

abbrev pub MAXARG-A : ℕ
MAXARG-A = (1 << SIZE-A) - 1

abbrev pub MAXARG-B : ℕ
MAXARG-B = (1 << SIZE-B) - 1

abbrev pub MAXARG-C : ℕ
MAXARG-C = (1 << SIZE-C) - 1

abbrev pub OFFSET-sC : ℕ
OFFSET-sC = MAXARG-C >> 1

abbrev pub sC2int : ℕ → ℤ
sC2int i = pos i -ℤ pos OFFSET-sC

-- ---- a mask with n 1 bits at position p
abbrev pub MASK1 : ℕ → ℕ → ℕ
MASK1 n p = (~ ((~ 0) << n)) << p

-- ---- the fields of a word. (`check_exp` is an assertion of the C, and no part of the value.)
abbrev pub getarg : ℕ → ℕ → ℕ → ℕ
getarg i p size = (i >> p) & MASK1 size 0

abbrev pub GET-OPCODE : ℕ → ℕ
GET-OPCODE i = (i >> POS-OP) & MASK1 SIZE-OP 0

abbrev pub GETARG-A : ℕ → ℕ
GETARG-A i = getarg i POS-A SIZE-A

abbrev pub GETARG-B : ℕ → ℕ
GETARG-B i = getarg i POS-B SIZE-B

abbrev pub GETARG-sB : ℕ → ℤ
GETARG-sB i = sC2int (GETARG-B i)

abbrev pub GETARG-C : ℕ → ℕ
GETARG-C i = getarg i POS-C SIZE-C

abbrev pub GETARG-sC : ℕ → ℤ
GETARG-sC i = sC2int (GETARG-C i)

abbrev pub GETARG-k : ℕ → ℕ
GETARG-k i = getarg i POS-k 1

abbrev pub GETARG-Bx : ℕ → ℕ
GETARG-Bx i = getarg i POS-Bx SIZE-Bx

abbrev pub GETARG-Ax : ℕ → ℕ
GETARG-Ax i = getarg i POS-Ax SIZE-Ax

abbrev pub GETARG-sBx : ℕ → ℤ
GETARG-sBx i = pos (getarg i POS-Bx SIZE-Bx) -ℤ pos OFFSET-sBx

abbrev pub GETARG-sJ : ℕ → ℤ
GETARG-sJ i = pos (getarg i POS-sJ SIZE-sJ) -ℤ pos OFFSET-sJ

-- ---- a word of its fields
abbrev pub CREATE-ABCk : ℕ → ℕ → ℕ → ℕ → ℕ → ℕ
CREATE-ABCk o a b c k = (o << POS-OP) ∣ (a << POS-A) ∣ (b << POS-B) ∣ (c << POS-C) ∣ (k << POS-k)

abbrev pub CREATE-ABx : ℕ → ℕ → ℕ → ℕ
CREATE-ABx o a bc = (o << POS-OP) ∣ (a << POS-A) ∣ (bc << POS-Bx)

abbrev pub CREATE-Ax : ℕ → ℕ → ℕ
CREATE-Ax o a = (o << POS-OP) ∣ (a << POS-Ax)

abbrev pub CREATE-sJ : ℕ → ℕ → ℕ → ℕ
CREATE-sJ o j k = (o << POS-OP) ∣ (j << POS-sJ) ∣ (k << POS-k)

-- llimits.h, cast_uint: an int, as an unsigned number of 32 bits
abbrev pub cast_uint : ℤ → ℕ
cast_uint (pos n) = n % 2 ^ 32
cast_uint (negsuc n) = 2 ^ 32 - 1 - n % 2 ^ 32

-- ---- NUM_OPCODES: the number of OP_EXTRAARG, and 1
abbrev pub NUM-OPCODES : ℕ
NUM-OPCODES = 82 + 1

-- ---- luaP_opmodes: the column `mode`, in the order of the opcodes
abbrev pub luaP_opmodes : List ℕ
luaP_opmodes =
    -- OP_MOVE OP_LOADI OP_LOADF OP_LOADK OP_LOADKX OP_LOADFALSE OP_LFALSESKIP OP_LOADTRUE OP_LOADNIL OP_GETUPVAL
    iABC ∷ i_as_bx ∷ i_as_bx ∷ iABx ∷ iABx ∷ iABC ∷ iABC ∷ iABC ∷ iABC ∷ iABC ∷
    -- OP_SETUPVAL OP_GETTABUP OP_GETTABLE OP_GETI OP_GETFIELD OP_SETTABUP OP_SETTABLE OP_SETI OP_SETFIELD OP_NEWTABLE
    iABC ∷ iABC ∷ iABC ∷ iABC ∷ iABC ∷ iABC ∷ iABC ∷ iABC ∷ iABC ∷ iABC ∷
    -- OP_SELF OP_ADDI OP_ADDK OP_SUBK OP_MULK OP_MODK OP_POWK OP_DIVK OP_IDIVK OP_BANDK
    iABC ∷ iABC ∷ iABC ∷ iABC ∷ iABC ∷ iABC ∷ iABC ∷ iABC ∷ iABC ∷ iABC ∷
    -- OP_BORK OP_BXORK OP_SHRI OP_SHLI OP_ADD OP_SUB OP_MUL OP_MOD OP_POW OP_DIV
    iABC ∷ iABC ∷ iABC ∷ iABC ∷ iABC ∷ iABC ∷ iABC ∷ iABC ∷ iABC ∷ iABC ∷
    -- OP_IDIV OP_BAND OP_BOR OP_BXOR OP_SHL OP_SHR OP_MMBIN OP_MMBINI OP_MMBINK OP_UNM
    iABC ∷ iABC ∷ iABC ∷ iABC ∷ iABC ∷ iABC ∷ iABC ∷ iABC ∷ iABC ∷ iABC ∷
    -- OP_BNOT OP_NOT OP_LEN OP_CONCAT OP_CLOSE OP_TBC OP_JMP OP_EQ OP_LT OP_LE
    iABC ∷ iABC ∷ iABC ∷ iABC ∷ iABC ∷ iABC ∷ isJ ∷ iABC ∷ iABC ∷ iABC ∷
    -- OP_EQK OP_EQI OP_LTI OP_LEI OP_GTI OP_GEI OP_TEST OP_TESTSET OP_CALL OP_TAILCALL
    iABC ∷ iABC ∷ iABC ∷ iABC ∷ iABC ∷ iABC ∷ iABC ∷ iABC ∷ iABC ∷ iABC ∷
    -- OP_RETURN OP_RETURN0 OP_RETURN1 OP_FORLOOP OP_FORPREP OP_TFORPREP OP_TFORCALL OP_TFORLOOP OP_SETLIST OP_CLOSURE
    iABC ∷ iABC ∷ iABC ∷ iABx ∷ iABx ∷ iABx ∷ iABC ∷ iABx ∷ iABC ∷ iABx ∷
    -- OP_VARARG OP_VARARGPREP OP_EXTRAARG
    iABC ∷ iABC ∷ i_ax ∷ []
