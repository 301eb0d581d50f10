-- The header's 31 bytes (01 'header.rs'; lundump.c's `checkHeader`, which refuses a format other than 0).
--     Header               the form: what the header shows, and its warning
--     header_of format      the Rust's `Header` of a file with this format byte: all else in it is fixed
--     format_warnings       a format other than 0 is a warning, at the format's place
use Rattle.std.specs.Prelude.{cond, List, [], ◌∷◌, ℕ, eqb, pos}
use Rattle.format.specs.declared.header.Header as declared
use Rattle.format.specs.declared.header.Warning.{Warning}
use Rattle.format.specs.declared.header.Warning.TheVariants.{NonStandardFormat}
use Rattle.format.specs.Form.{Bytes, Form, Then, ◌>>=◌, ◌>>◌, Is, Here, Spelt}
use Rattle.format.specs.GrammarFields.{Byte}

-- lua.h's LUA_SIGNATURE; lundump.h's LUAC_VERSION, LUAC_DATA, LUAC_INT, LUAC_NUM
abbrev pub signature : Bytes
signature = 0x1b ∷ 0x4c ∷ 0x75 ∷ 0x61 ∷ []

abbrev pub luac_data : Bytes
luac_data = 0x19 ∷ 0x93 ∷ 0x0d ∷ 0x0a ∷ 0x1a ∷ 0x0a ∷ []

abbrev pub luac_int : Bytes
luac_int = 0x78 ∷ 0x56 ∷ 0 ∷ 0 ∷ 0 ∷ 0 ∷ 0 ∷ 0 ∷ []

-- 370.5
abbrev pub luac_num : Bytes
luac_num = 0 ∷ 0 ∷ 0 ∷ 0 ∷ 0 ∷ 0x28 ∷ 0x77 ∷ 0x40 ∷ []

abbrev pub header_of : ℕ → declared.Header
header_of format = record {
  version = 0x54;
  format = format;
  instruction_size = 4;
  lua_integer_size = 8;
  sizeof_sizet = 8;
  lua_number_size = 8;
  luac_int = pos 0x5678;
  luac_num = 0x4077280000000000;
}

abbrev pub format_warnings : ℕ → ℕ → List Warning
format_warnings place format = cond (eqb format 0) [] (NonStandardFormat place ∷ [])

pub record Headed : Type 0 where
  pub header : declared.Header
  pub warnings : List Warning

-- what stands before the format byte, and behind it
abbrev pub BeforeFormat : Form (Unit {0})
BeforeFormat = do
  Spelt signature
  Spelt (0x54 ∷ [])

abbrev pub BehindFormat : Form (Unit {0})
BehindFormat = do
  Spelt luac_data
  Spelt (4 ∷ [])
  Spelt (8 ∷ [])
  Spelt (8 ∷ [])
  Spelt luac_int
  Spelt luac_num

abbrev pub Header : Form Headed
Header = do
  BeforeFormat
  place ← Here
  format ← Byte
  BehindFormat
  Is (record { header = header_of format; warnings = format_warnings place format })
