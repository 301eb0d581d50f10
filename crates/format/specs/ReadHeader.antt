-- header.rs as a function: `parse_header_lua54`, with its refusals and places.
use Rattle.std.specs.Prelude.{Bool, true, false, ◌&&◌, List, [], ◌∷◌, ℕ, eqb, length}
use Rattle.format.specs.declared.refusal.Refusal.{Refusal}
use Rattle.format.specs.declared.refusal.Refusal.TheVariants.{Signature, Version, LuacData, InstructionSize, LuaIntegerSize, LuaNumberSize, LuacInt, LuacNum}
use Rattle.format.specs.Form.{Bytes}
use Rattle.format.specs.GrammarHeader.{Headed, signature, luac_data, luac_int, luac_num, header_of, format_warnings}
use Rattle.format.specs.Read.{Read, ok, refused, Reader, next, ◌>>=◌, ◌>>◌, give, here, test, run}
use Rattle.format.specs.ReadFields.{byte}

abbrev pub same_bytes : Bytes → Bytes → Bool
same_bytes [] [] = true
same_bytes [] (y ∷ ys) = false
same_bytes (x ∷ xs) [] = false
same_bytes (x ∷ xs) (y ∷ ys) = eqb x y && same_bytes xs ys

-- as many bytes, which must be these; the refusal has the place of the first
abbrev pub expect : Bytes → (ℕ → Refusal) → Reader (Unit {0})
expect bytes refusal = do
  place ← here
  b ← run (length bytes)
  test (same_bytes b bytes) (refusal place)

abbrev pub before_format : Reader (Unit {0})
before_format = do
  expect signature Signature
  expect (0x54 ∷ []) Version

abbrev pub behind_format : Reader (Unit {0})
behind_format = do
  expect luac_data LuacData
  expect (4 ∷ []) InstructionSize
  expect (8 ∷ []) LuaIntegerSize
  expect (8 ∷ []) LuaNumberSize
  expect luac_int LuacInt
  expect luac_num LuacNum

abbrev pub header : Reader Headed
header = do
  before_format
  place ← here
  format ← byte
  behind_format
  give (record { header = header_of format; warnings = format_warnings place format })
