-- What is answered of an entry that is read at a place: its numbers, and the place behind it.
--     word_at limits place chunk, constant_at ..
-- Bytes before the place are not looked at.
use Rattle.std.specs.Prelude.{Option, Result, Ok, Err}
use Rattle.format.specs.declared.entry.AbsLineInfo.{AbsLineInfo}
use Rattle.format.specs.declared.entry.UpvalueDesc.{UpvalueDesc}
use Rattle.format.specs.declared.refusal.Refusal.{Refusal}
use Rattle.read_entry.specs.declared.constant.ConstantValue.{ConstantValue}
use Rattle.read_entry.specs.declared.debug.LocalAt.{LocalAt}
use Rattle.read_field.specs.declared.string.StringAt.{StringAt}
use Rattle.slice.specs.declared.cursor.Cursor.{Cursor}
use Rattle.std.specs.Prelude.{List, [], ◌∷◌, ◌++◌, ℕ, drop}
use Rattle.std.specs.Int.{w8}
use Rattle.std.proofs.Common.{to_z}
use Rattle.format.specs.Form.{Bytes}
use Rattle.format.specs.ReadFields as fields
use Rattle.format.specs.ReadChunk as chunk
use Rattle.read_field.specs.Shown.{shown, string_result}
use Rattle.read_entry.specs.Readers.{raw_local}
use Rattle.read_entry.specs.Shown.{constant_result, anchor_result, local_result}
use Rattle.read_nth.specs.Shown.{upvalue_result}
use Rattle.c_boundary.specs.Status.{limits_of, Answer, done, refuses, admitted, complement}
use Rattle.c_entries.specs.EntryNumbers.{present_number, place_number, length_number, string_numbers, constant_numbers, upvalue_numbers, anchor_numbers}

-- numbers, and the place behind
abbrev pub up_to : List ℕ → ℕ → List ℕ
up_to l to = l ++ (to ∷ [])

abbrev pub of_word_at : Result (ℕ × Cursor) Refusal → Answer
of_word_at (Ok (w, to)) = done (w ∷ to.at ∷ [])
of_word_at (Err q) = refuses q

abbrev pub of_constant_at : Result (ConstantValue × Cursor) Refusal → Answer
of_constant_at (Ok (k, to)) = done (up_to (constant_numbers k) to.at)
of_constant_at (Err q) = refuses q

abbrev pub of_upvalue_at : Result (UpvalueDesc × Cursor) Refusal → Answer
of_upvalue_at (Ok (u, to)) = done (up_to (upvalue_numbers u) to.at)
of_upvalue_at (Err q) = refuses q

-- a byte as a signed number, and that in 64 bits
abbrev pub delta_number : ℕ → ℕ
delta_number b = complement (to_z w8 b)

abbrev pub of_delta_at : Result (ℕ × Cursor) Refusal → Answer
of_delta_at (Ok (b, to)) = done (delta_number b ∷ to.at ∷ [])
of_delta_at (Err q) = refuses q

abbrev pub of_anchor_at : Result (AbsLineInfo × Cursor) Refusal → Answer
of_anchor_at (Ok (a, to)) = done (up_to (anchor_numbers a) to.at)
of_anchor_at (Err q) = refuses q

-- with its name as it is spelt: an absent one is absent
abbrev pub local_numbers_at : Option StringAt → ℕ → ℕ → ℕ → List ℕ
local_numbers_at t startpc endpc to = present_number t ∷ place_number t ∷ length_number t ∷ startpc ∷ endpc ∷ to ∷ []

abbrev pub of_local_at : Result (LocalAt × Cursor) Refusal → Answer
of_local_at (Ok (l, to)) = done (local_numbers_at l.name l.startpc l.endpc to.at)
of_local_at (Err q) = refuses q

abbrev pub of_string_at : Result (Option StringAt × Cursor) Refusal → Answer
of_string_at (Ok (t, to)) = done (up_to (string_numbers t) to.at)
of_string_at (Err q) = refuses q

-- ## What each call answers, behind 21 and 22
abbrev pub word_at : List ℕ → ℕ → Bytes → Answer
word_at limits place s = admitted (limits_of limits) s (of_word_at (shown (fields.field 4 place (drop place s))))

abbrev pub constant_at : List ℕ → ℕ → Bytes → Answer
constant_at limits place s = admitted (limits_of limits) s (of_constant_at (constant_result (chunk.constant (limits_of limits).max_string_bytes place (drop place s))))

abbrev pub upvalue_at : List ℕ → ℕ → Bytes → Answer
upvalue_at limits place s = admitted (limits_of limits) s (of_upvalue_at (upvalue_result (chunk.upvalue place (drop place s))))

abbrev pub delta_at : List ℕ → ℕ → Bytes → Answer
delta_at limits place s = admitted (limits_of limits) s (of_delta_at (shown (fields.field 1 place (drop place s))))

abbrev pub anchor_at : List ℕ → ℕ → Bytes → Answer
anchor_at limits place s = admitted (limits_of limits) s (of_anchor_at (anchor_result (chunk.anchor place (drop place s))))

abbrev pub local_at : List ℕ → ℕ → Bytes → Answer
local_at limits place s = admitted (limits_of limits) s (of_local_at (local_result (raw_local (limits_of limits).max_string_bytes place (drop place s))))

abbrev pub string_at : List ℕ → ℕ → Bytes → Answer
string_at limits place s = admitted (limits_of limits) s (of_string_at (string_result (fields.string (limits_of limits).max_string_bytes place (drop place s))))
