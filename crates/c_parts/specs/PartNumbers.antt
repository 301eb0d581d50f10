-- What is answered of a function that is read at a place, before and behind the functions that nest in it:
--     head_at limits place chunk, tail_at ..
-- Bytes before the place are not looked at. `head` counts the instructions of the functions before; here there are none.
use Rattle.std.specs.Prelude.{Result, Ok, Err}
use Rattle.format.specs.declared.refusal.Refusal.{Refusal}
use Rattle.slice.specs.declared.cursor.Cursor.{Cursor}
use Rattle.std.specs.Prelude.{List, [], ◌∷◌, ℕ, drop}
use Rattle.read_prototype.specs.declared.parts.Head.{Head}
use Rattle.read_prototype.specs.declared.parts.Tail.{Tail}
use Rattle.format.specs.Form.{Bytes}
use Rattle.read_prototype.specs.Parts as parts
use Rattle.read_prototype.specs.PartsShown.{head_result, tail_result}
use Rattle.c_boundary.specs.Status.{limits_of, Answer, done, refuses, admitted}
use Rattle.c_entries.specs.EntryNumbers.{present_number, place_number, length_number}

-- of each list how many entries it has, and the place of the first
abbrev pub head_numbers : Head → List ℕ
head_numbers h =
    present_number h.front.source
    ∷ place_number h.front.source
    ∷ length_number h.front.source
    ∷ h.front.lines.line_defined
    ∷ h.front.lines.last_line_defined
    ∷ h.front.sizes.numparams
    ∷ h.front.sizes.is_vararg
    ∷ h.front.sizes.maxstacksize
    ∷ h.lists.instructions.count
    ∷ h.lists.instructions.place
    ∷ h.lists.constants.count
    ∷ h.lists.constants.place
    ∷ h.lists.upvalues.count
    ∷ h.lists.upvalues.place
    ∷ h.protos.count
    ∷ h.protos.place
    ∷ []

-- (the place behind is that of the nested functions)
abbrev pub of_head : Result (Head × Cursor) Refusal → Answer
of_head (Ok (h, to)) = done (head_numbers h)
of_head (Err q) = refuses q

abbrev pub tail_numbers : Tail → ℕ → List ℕ
tail_numbers t to =
    t.line_info.count
    ∷ t.line_info.place
    ∷ t.abs_line_info.count
    ∷ t.abs_line_info.place
    ∷ t.loc_vars.count
    ∷ t.loc_vars.place
    ∷ t.upvalue_names.count
    ∷ t.upvalue_names.place
    ∷ to
    ∷ []

abbrev pub of_tail : Result (Tail × Cursor) Refusal → Answer
of_tail (Ok (t, to)) = done (tail_numbers t to.at)
of_tail (Err q) = refuses q

-- ## What each call answers, behind 21 and 22
abbrev pub head_at : List ℕ → ℕ → Bytes → Answer
head_at limits place s = admitted (limits_of limits) s (of_head (head_result (parts.head (limits_of limits) 0 place (drop place s))))

abbrev pub tail_at : List ℕ → ℕ → Bytes → Answer
tail_at limits place s = admitted (limits_of limits) s (of_tail (tail_result (parts.tail (limits_of limits).max_string_bytes place (drop place s))))
