-- reader.rs as functions: fields of n bytes, `read_varint_lua54`, `read_string_lua54`, with their refusals and places.
use Rattle.std.specs.Prelude.{cond, List, [], ◌∷◌, ℕ, zero, suc, ◌+◌, ◌*◌, ◌-◌, ◌%◌, ◌^◌, ltb}
use Rattle.std.proofs.Math.Option.{Option, none, some}
use Rattle.format.specs.declared.refusal.Refusal.TheVariants.{VarintOverflow, StringBytes}
use Rattle.format.specs.Form.{Bytes}
use Rattle.format.specs.GrammarFields.{little, LuaString}
use Rattle.format.specs.Read.{Read, ok, refused, Reader, next, ◌>>=◌, ◌>>◌, give, here, at_most, short, run}

abbrev pub field : ℕ → Reader ℕ
field n = do
  bytes ← run n
  give (little bytes)

abbrev pub byte : Reader ℕ
byte = field 1

-- one more group behind those that make `high`: cut short; or overflow, found at the next byte; or the last group, a byte from 128 up; or on
abbrev pub groups : ℕ → Reader ℕ
groups high at [] = refused (short 1 at)
groups high at (x ∷ s) =
    let more = groups (high * 128 + x) (at + 1) s in
    cond (ltb high (2 ^ 57 - 1)) (cond (ltb x 128) more (ok (high * 128 + x % 128) (at + 1) s)) (refused VarintOverflow)

abbrev pub number : Reader ℕ
number at s = groups 0 at s

-- behind a size whose first byte is at `first`
abbrev pub content : ℕ → ℕ → ℕ → Reader (Option LuaString)
content limit first zero = give none
content limit first (suc n) = do
  at_most n limit (StringBytes first)
  place ← here
  bytes ← run n
  give (some (record { place = place; bytes = bytes }))

abbrev pub string : ℕ → Reader (Option LuaString)
string limit = do
  first ← here
  size ← number
  content limit first size
