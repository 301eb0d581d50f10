-- From lundump.c (Lua 5.4.4), close to the text: how Lua's own loader reads a number. A size_t has 64 bits.
use Rattle.std.specs.Prelude.{cond, [], ◌∷◌, ℕ, ◌*◌, ◌-◌, ◌/◌, ◌%◌, ◌^◌, leb, eqb}
use Rattle.std.specs.Int.Bits.{bit_and, bit_or}
use Rattle.format.specs.Form.{Bytes}

-- what is loaded and the bytes behind it, or one of the two errors
pub data LoadedNumber : Type 0 where
  loaded : ℕ → Bytes → LoadedNumber
  truncated_chunk : LoadedNumber
  integer_overflow : LoadedNumber

-- do { b = loadByte(S); if (x >= limit) error(S, "integer overflow"); x = (x << 7) | (b & 0x7f); } while ((b & 0x80) == 0);
abbrev pub load_unsigned_loop : ℕ → ℕ → Bytes → LoadedNumber
load_unsigned_loop limit x [] = truncated_chunk
load_unsigned_loop limit x (b ∷ s) =
    let next = bit_or (x * 2 ^ 7 % 2 ^ 64) (bit_and b 0x7f) in
    let more = load_unsigned_loop limit next s in
    cond (leb limit x) integer_overflow (cond (eqb (bit_and b 0x80) 0) more (loaded next s))

-- size_t x = 0; limit >>= 7; ..
abbrev pub load_unsigned : ℕ → Bytes → LoadedNumber
load_unsigned limit s = load_unsigned_loop (limit / 2 ^ 7) 0 s

-- return load_unsigned(S, ~(size_t)0);
abbrev pub load_size : Bytes → LoadedNumber
load_size s = load_unsigned (2 ^ 64 - 1) s

-- return cast_int(load_unsigned(S, INT_MAX));
abbrev pub load_int : Bytes → LoadedNumber
load_int s = load_unsigned (2 ^ 31 - 1) s
