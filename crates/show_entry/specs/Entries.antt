-- What is shown of an entry, or the refusal.
use Rattle.std.specs.Prelude as prelude
use Rattle.std.specs.Prelude.{ℕ, ℤ, Result, Ok, Err}
use Rattle.format.specs.declared.refusal.Refusal.{Refusal}
use Rattle.read_entry.specs.declared.constant.ConstantValue.{ConstantValue}
use Rattle.read_field.specs.declared.string.StringAt.{StringAt}
use Rattle.std.proofs.Math.Option.{Option}
use Rattle.std.specs.Int.{w8}
use Rattle.std.proofs.Common.{to_z}
use Rattle.format.specs.declared.entry.UpvalueDesc.{UpvalueDesc}
use Rattle.format.specs.declared.entry.AbsLineInfo.{AbsLineInfo}
use Rattle.format.specs.GrammarFields.{LuaString}
use Rattle.format.specs.Reading as reading
use Rattle.read_field.specs.Shown.{option_string}
use Rattle.read_entry.specs.Shown.{constant_value}
use Rattle.show_row.specs.Asked.{Asked, found, refused}

abbrev pub shown_word : Asked ℕ → Result ℕ Refusal
shown_word (found w) = Ok w
shown_word (refused q) = Err q

-- nil, a boolean, a signed integer, a float's bits, a string's place and length
abbrev pub shown_constant : Asked reading.ConstantValue → Result ConstantValue Refusal
shown_constant (found k) = Ok (constant_value k)
shown_constant (refused q) = Err q

abbrev pub shown_upvalue : Asked UpvalueDesc → Result UpvalueDesc Refusal
shown_upvalue (found u) = Ok u
shown_upvalue (refused q) = Err q

-- a byte as a signed number
abbrev pub shown_delta : Asked ℕ → Result ℤ Refusal
shown_delta (found b) = Ok (to_z w8 b)
shown_delta (refused q) = Err q

abbrev pub shown_anchor : Asked AbsLineInfo → Result AbsLineInfo Refusal
shown_anchor (found a) = Ok a
shown_anchor (refused q) = Err q

-- a name's place and length, or that it is absent
abbrev pub shown_name : Asked (Option LuaString) → Result (prelude.Option StringAt) Refusal
shown_name (found t) = Ok (option_string t)
shown_name (refused q) = Err q
