-- The grammar's smallest parts: fields of n bytes, numbers, strings (01 'reader.rs').
use Rattle.std.specs.Prelude.{◌≡◌, List, [], ◌∷◌, ◌++◌, ℕ, zero, suc, ◌+◌, ◌*◌, ◌-◌, ◌%◌, ◌^◌, ◌≤◌, ◌<◌, length}
use Rattle.std.proofs.Math.Option.{Option, none, some}
use Rattle.format.specs.Form.{Bytes, Below, Form, Then, ◌>>=◌, ◌>>◌, Is, Here, Given, Run}

-- ## Fields: n bytes, low byte first. lundump.c's `loadByte` (n is 1), `loadVector` in `loadCode` (4), `loadInteger` and `loadNumber` (8)
abbrev pub little : Bytes → ℕ
little [] = 0
little (x ∷ xs) = x + 256 * little xs

abbrev pub Field : ℕ → Form ℕ
Field n = do
  bytes ← Run n
  Is (little bytes)

abbrev pub Byte : Form ℕ
Byte = Field 1

-- ## Numbers: any bytes below 128, then one from 128 up; base 128, high group first. lundump.c's `loadUnsigned`
abbrev pub base128 : ℕ → List ℕ → ℕ
base128 high [] = high
base128 high (x ∷ xs) = base128 (high * 128 + x) xs

pub record Varint (bytes : Bytes) (v : ℕ) : Type 0 where
  pub more : List ℕ
  pub last : ℕ
  pub whole : bytes ≡ more ++ last ∷ []
  pub small : Below 128 more
  pub closes : 128 ≤ last
  pub value : v ≡ base128 0 more * 128 + last % 128
  pub fits : v < 2 ^ 64 - 128

abbrev pub Number : Form ℕ
Number at bytes v = Varint bytes v

-- ## Strings: size 0 is absent, size n + 1 brings n bytes, at most the limit. lundump.c's `loadStringN`
-- a string that is there: the place of its first byte, just after its size, and its bytes
pub record LuaString : Type 0 where
  pub place : ℕ
  pub bytes : Bytes

abbrev pub Content : ℕ → ℕ → Form (Option LuaString)
Content limit zero = Is none
Content limit (suc n) = do
  Given (n ≤ limit)
  place ← Here
  bytes ← Run n
  Is (some (record { place = place; bytes = bytes }))

abbrev pub String : ℕ → Form (Option LuaString)
String limit = do
  size ← Number
  Content limit size
