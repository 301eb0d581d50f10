-- From ldump.c (Lua 5.4.4), close to the text: how Lua itself writes a number. A size_t has 64 bits.
use Rattle.std.specs.Prelude.{cond, [], ◌∷◌, ℕ, zero, suc, ◌+◌, ◌/◌, ◌^◌, eqb}
use Rattle.std.specs.Int.Bits.{bit_and, bit_or}
use Rattle.format.specs.Form.{Bytes}

-- #define DIBS ((sizeof(size_t) * 8 / 7) + 1)
abbrev pub DIBS : ℕ
DIBS = 64 / 7 + 1

-- do { buff[DIBS - (++n)] = x & 0x7f; x >>= 7; } while (x != 0);
-- The buffer is filled from its end: `buff` is its filled part, and the first argument how many bytes of it are free.
abbrev pub dump_size_loop : ℕ → ℕ → Bytes → Bytes
dump_size_loop zero x buff = buff
dump_size_loop (suc free) x buff =
    let filled = bit_and x 0x7f ∷ buff in
    let more = dump_size_loop free (x / 2 ^ 7) filled in
    cond (eqb (x / 2 ^ 7) 0) filled more

-- buff[DIBS - 1] |= 0x80
abbrev pub mark_last : Bytes → Bytes
mark_last [] = []
mark_last (x ∷ []) = bit_or x 0x80 ∷ []
mark_last (x ∷ y ∷ ys) = x ∷ mark_last (y ∷ ys)

unfoldable pub dump_size : ℕ → Bytes
dump_size x = mark_last (dump_size_loop DIBS x [])
