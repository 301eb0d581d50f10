-- The numbers of strings and of a function's entries.
use Rattle.std.specs.Prelude.{Option, Some, None}
use Rattle.read_field.specs.declared.string.StringAt.{StringAt}
use Rattle.std.specs.Prelude.{cond, List, [], ◌∷◌, ℕ}
use Rattle.read_entry.specs.declared.constant.ConstantValue.{ConstantValue}
use Rattle.read_entry.specs.declared.constant.ConstantValue.TheVariants as value
use Rattle.format.specs.declared.entry.UpvalueDesc.{UpvalueDesc}
use Rattle.format.specs.declared.entry.AbsLineInfo.{AbsLineInfo}
use Rattle.c_boundary.specs.Status.{complement}

-- of a string whether it is there, its place and its length
abbrev pub present_number : Option StringAt → ℕ
present_number None = 0
present_number (Some t) = 1

abbrev pub place_number : Option StringAt → ℕ
place_number None = 0
place_number (Some t) = t.place

abbrev pub length_number : Option StringAt → ℕ
length_number None = 0
length_number (Some t) = t.len

abbrev pub string_numbers : Option StringAt → List ℕ
string_numbers t = present_number t ∷ place_number t ∷ length_number t ∷ []

-- the tag of lobject.h (0 nil, 1 false, 17 true, 3 integer, 19 float, 4 short string, 20 long string); an integer's or float's bits or a string's place; a string's length
abbrev pub constant_numbers : ConstantValue → List ℕ
constant_numbers value.Nil = 0 ∷ 0 ∷ 0 ∷ []
constant_numbers (value.Boolean b) = cond b 17 1 ∷ 0 ∷ 0 ∷ []
constant_numbers (value.Integer z) = 3 ∷ complement z ∷ 0 ∷ []
constant_numbers (value.Float n) = 19 ∷ n ∷ 0 ∷ []
constant_numbers (value.ShortString t) = 4 ∷ t.place ∷ t.len ∷ []
constant_numbers (value.LongString t) = 20 ∷ t.place ∷ t.len ∷ []

abbrev pub upvalue_numbers : UpvalueDesc → List ℕ
upvalue_numbers u = u.instack ∷ u.idx ∷ u.kind ∷ []

abbrev pub anchor_numbers : AbsLineInfo → List ℕ
anchor_numbers a = a.pc ∷ a.line ∷ []

abbrev pub local_numbers : ℕ → ℕ → ℕ → List ℕ
local_numbers n startpc endpc = n ∷ startpc ∷ endpc ∷ []
