-- `read_prototype::parts::read_tail` meets its contract: at each return the calls say which case of the reader holds (`HeadAnswers.antt`). Assumes nothing.
use mathlib.Core.Path.{sym, ◌∙◌}
use Rattle.std.proofs.lemmas.Result.{err_from_is_err_and}
use Rattle.format.specs.ReadChunk as reader
use Rattle.format_spelling.specs.ReadSpelling as count
use Rattle.format_spelling.proofs.Covers.{covers_number}
use Rattle.read_entry.specs.Readers.{line_info}
use Rattle.read_list.proofs.Within.{exact_line_info}
use Rattle.read_prototype.proofs.On.{nothing_said}
use Rattle.read_prototype.proofs.CoversParts.{covers_anchors, covers_locals}
use Rattle.read_prototype.proofs.HeadAnswers.{Ended, ended, anchors, locals, deltas_refused, anchors_refused, locals_refused, names_refused, whole-tail, tail_err, tail-add}
use Rattle.read_prototype.proofs.parts.read_tail.Goals as goal
use Rattle.read_prototype.proofs.parts.read_tail.Goals.{In_ok-line_info, In_ok-abs_line_info, In_ok-loc_vars}

one : (c : In_ok-line_info) → let a = c.args in
    Ended line_info count.number a.s.now a.cursor.at a.tally.now c.in_ok-line_info.line_info c.in_ok-line_info.behind c.line_info_list.new.tally
one c = ended (covers_number exact_line_info) _ c.args.cursor.at c.in_ok-line_info.was (c.line_info_list.ensures.value, c.line_info_list.ensures.adds) c.requires

two : (c : In_ok-abs_line_info) → Ended anchors (count.counted reader.anchor count.anchor) c.args.s.now c.in_ok-line_info.behind.at c.line_info_list.new.tally c.in_ok-abs_line_info.abs_line_info c.in_ok-abs_line_info.further c.anchors_list.new.tally
two c =
    let one = ended (covers_number exact_line_info) c.args.s.now c.args.cursor.at c.in_ok-line_info.was (c.line_info_list.ensures.value, c.line_info_list.ensures.adds) c.requires in
    ended covers_anchors _ c.in_ok-line_info.behind.at c.in_ok-abs_line_info.was (c.anchors_list.ensures.value, c.anchors_list.ensures.adds) one.room

three : (c : In_ok-loc_vars) → let a = c.args in
    Ended (locals a.max_string_bytes) (count.counted (reader.local a.max_string_bytes) (count.local a.max_string_bytes)) a.s.now c.in_ok-abs_line_info.further.at c.anchors_list.new.tally c.in_ok-loc_vars.loc_vars c.in_ok-loc_vars.last c.locals_list.new.tally
three c =
    let one = ended (covers_number exact_line_info) c.args.s.now c.args.cursor.at c.in_ok-line_info.was (c.line_info_list.ensures.value, c.line_info_list.ensures.adds) c.requires in
    let two = ended covers_anchors c.args.s.now c.in_ok-line_info.behind.at c.in_ok-abs_line_info.was (c.anchors_list.ensures.value, c.anchors_list.ensures.adds) one.room in
    ended (covers_locals _) _ c.in_ok-abs_line_info.further.at c.in_ok-loc_vars.was (c.locals_list.ensures.value, c.locals_list.ensures.adds) two.room

pub anchors_list-requires : goal.anchors_list-requires
anchors_list-requires c = (one (goal.at.anchors_list-requires c).In_ok-line_info).room

pub locals_list-requires : goal.locals_list-requires
locals_list-requires c = (two (goal.at.locals_list-requires c).In_ok-abs_line_info).room

pub names_list-requires : goal.names_list-requires
names_list-requires c = (three (goal.at.names_list-requires c).In_ok-loc_vars).room

pub returns-in_err-line_info : goal.returns-in_err-line_info
returns-in_err-line_info c =
    let a = c.args in
    let p = err_from_is_err_and c.from_residual.result c.from_residual.ensures.1 in
    let both = nothing_said (tail_err _ _) (deltas_refused a.s.now a.max_string_bytes a.cursor.at _ (sym c.in_err-line_info.was ∙ c.line_info_list.ensures.value)) in
    rw (p.1, p.2) (record { value = both.0; adds = both.1 })

pub returns-in_err-abs_line_info : goal.returns-in_err-abs_line_info
returns-in_err-abs_line_info c =
    let a = c.args in
    let p = err_from_is_err_and c.from_residual-in_err-abs_line_info.result c.from_residual-in_err-abs_line_info.ensures.1 in
    let both = nothing_said (tail_err _ _) (anchors_refused a.s.now a.max_string_bytes a.cursor.at _ _ c.in_ok-line_info.behind (one (goal.at.returns-in_err-abs_line_info c).In_ok-line_info).shown _ (sym c.in_err-abs_line_info.was ∙ c.anchors_list.ensures.value)) in
    rw (p.1, p.2) (record { value = both.0; adds = both.1 })

pub returns-in_err-loc_vars : goal.returns-in_err-loc_vars
returns-in_err-loc_vars c =
    let a = c.args in
    let p = err_from_is_err_and c.from_residual-in_err-loc_vars.result c.from_residual-in_err-loc_vars.ensures.1 in
    let both = nothing_said (tail_err _ _) (locals_refused a.s.now a.max_string_bytes a.cursor.at _ _ c.in_ok-line_info.behind (one (goal.at.returns-in_err-loc_vars c).In_ok-line_info).shown _ _ c.in_ok-abs_line_info.further (two (goal.at.returns-in_err-loc_vars c).In_ok-abs_line_info).shown _ (sym c.in_err-loc_vars.was ∙ c.locals_list.ensures.value)) in
    rw (p.1, p.2) (record { value = both.0; adds = both.1 })

pub returns-in_err-upvalue_names : goal.returns-in_err-upvalue_names
returns-in_err-upvalue_names c =
    let a = c.args in
    let p = err_from_is_err_and c.from_residual-in_err-upvalue_names.result c.from_residual-in_err-upvalue_names.ensures.1 in
    let both = nothing_said (tail_err _ _) (names_refused a.s.now a.max_string_bytes a.cursor.at _ _ c.in_ok-line_info.behind (one (goal.at.returns-in_err-upvalue_names c).In_ok-line_info).shown _ _ c.in_ok-abs_line_info.further (two (goal.at.returns-in_err-upvalue_names c).In_ok-abs_line_info).shown _ _ c.in_ok-loc_vars.last (three (goal.at.returns-in_err-upvalue_names c).In_ok-loc_vars).shown _ (sym c.in_err-upvalue_names.was ∙ c.names_list.ensures.value)) in
    rw (p.1, p.2) (record { value = both.0; adds = both.1 })

pub returns : goal.returns
returns c =
    let a = c.args in
    let o = one (goal.at.returns c).In_ok-line_info in
    let w = two (goal.at.returns c).In_ok-abs_line_info in
    let h = three (goal.at.returns c).In_ok-loc_vars in
    record {
      value = whole-tail a.s.now a.max_string_bytes a.cursor.at _ _ c.in_ok-line_info.behind o.shown _ _ c.in_ok-abs_line_info.further w.shown _ _ c.in_ok-loc_vars.last h.shown _ _ c.in_ok-upvalue_names.next (sym c.in_ok-upvalue_names.was ∙ c.names_list.ensures.value);
      adds = tail-add a.s.now a.max_string_bytes a.cursor.at _ _ c.in_ok-line_info.behind o.shown _ _ c.in_ok-abs_line_info.further w.shown _ _ c.in_ok-loc_vars.last h.shown o.adds w.adds h.adds c.names_list.ensures.adds;
    }
