-- What the code shows of the parts of a function: each list by its count and place.
use Rattle.std.specs.Prelude.{Result}
use Rattle.format.specs.declared.refusal.Refusal.{Refusal}
use Rattle.slice.specs.declared.cursor.Cursor.{Cursor}
use Rattle.std.specs.Prelude.{ℕ, length}
use Rattle.format.specs.GrammarChunk.{Listed}
use Rattle.format.specs.Read.{Read}
use Rattle.read_field.specs.Shown.{option_string, shown_as}
use Rattle.read_prototype.specs.declared.front.Front as declared-front
use Rattle.read_list.specs.declared.ListAt.{ListAt}
use Rattle.read_prototype.specs.declared.parts.HeadLists as declared-lists
use Rattle.read_prototype.specs.declared.parts.Head as declared-head
use Rattle.read_prototype.specs.declared.parts.Tail as declared-tail
use Rattle.read_prototype.specs.Front.{Front}
use Rattle.read_prototype.specs.Parts.{HeadLists, Head, Tail}

abbrev pub shown_at : {A : Type 0} → Listed A → ListAt
shown_at l = record { count = length l.items; place = l.place }

abbrev pub front_of : Front → declared-front.Front
front_of f = record { source = option_string f.source; lines = f.lines; sizes = f.sizes }

abbrev pub lists_of : HeadLists → declared-lists.HeadLists
lists_of l = record { instructions = shown_at l.instructions; constants = shown_at l.constants; upvalues = shown_at l.upvalues }

abbrev pub head_of : Head → declared-head.Head
head_of h = record { front = front_of h.front; lists = lists_of h.lists; protos = record { count = h.protos.count; place = h.protos.place } }

abbrev pub tail_of : Tail → declared-tail.Tail
tail_of t = record {
  line_info = shown_at t.line_info_lem;
  abs_line_info = shown_at t.abs_line_info;
  loc_vars = shown_at t.loc_vars;
  upvalue_names = shown_at t.upvalue_names_lem;
}

abbrev pub head_lists_result : Read HeadLists → Result (declared-lists.HeadLists × Cursor) Refusal
head_lists_result = shown_as lists_of

abbrev pub head_result : Read Head → Result (declared-head.Head × Cursor) Refusal
head_result = shown_as head_of

abbrev pub tail_result : Read Tail → Result (declared-tail.Tail × Cursor) Refusal
tail_result = shown_as tail_of
