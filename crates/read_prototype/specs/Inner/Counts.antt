-- What a walk keeps of the parts of a function: how long its lists are, whether its source is spelt, and where its words and its constants begin.
use Rattle.std.specs.Prelude.{Option, Result}
use Rattle.format.specs.declared.refusal.Refusal.{Refusal}
use Rattle.read_field.specs.declared.string.StringAt.{StringAt}
use Rattle.slice.specs.declared.cursor.Cursor.{Cursor}
use Rattle.std.specs.Prelude.{Bool}
use Rattle.std.specs.Option.{is_some}
use Rattle.format.specs.Read.{Read}
use Rattle.read_field.specs.Shown.{shown_as}
use Rattle.read_prototype.specs.declared.parts.Head as declared-head
use Rattle.read_prototype.specs.declared.parts.Tail as declared-tail
use Rattle.read_prototype.specs.declared.pass.HeadCounts.{HeadCounts}
use Rattle.read_prototype.specs.declared.pass.TailCounts.{TailCounts}
use Rattle.read_prototype.specs.Parts.{Head, Tail}
use Rattle.read_prototype.specs.PartsShown.{head_of, tail_of}

abbrev pub is_spelt : Option StringAt → Bool
is_spelt = is_some

-- of what the code shows of the parts
abbrev pub head_kept : declared-head.Head → HeadCounts
head_kept h = record {
  instructions = h.lists.instructions.count;
  constants = h.lists.constants.count;
  upvalues = h.lists.upvalues.count;
  protos = h.protos.count;
  named = is_spelt h.front.source;
  instructions_at = h.lists.instructions.place;
  constants_at = h.lists.constants.place;
}

abbrev pub tail_kept : declared-tail.Tail → TailCounts
tail_kept t = record {
  line_info = t.line_info.count;
  abs_line_info = t.abs_line_info.count;
  loc_vars = t.loc_vars.count;
  upvalue_names = t.upvalue_names.count;
}

abbrev pub head_counts : Head → HeadCounts
head_counts h = head_kept (head_of h)

abbrev pub tail_counts : Tail → TailCounts
tail_counts t = tail_kept (tail_of t)

abbrev pub head_counts_result : Read Head → Result (HeadCounts × Cursor) Refusal
head_counts_result = shown_as head_counts

abbrev pub tail_counts_result : Read Tail → Result (TailCounts × Cursor) Refusal
tail_counts_result = shown_as tail_counts
