-- `read_prototype::parts::read_head_lists` meets its contract: at each return the calls say which case of the reader holds (`HeadAnswers.antt`). Assumes nothing.
use mathlib.Core.Path.{sym, ◌∙◌}
use Rattle.std.proofs.lemmas.Result.{err_from_is_err_and}
use Rattle.format.specs.ReadChunk as reader
use Rattle.format_spelling.specs.ReadSpelling as count
use Rattle.format_spelling.proofs.Covers.{covers_number}
use Rattle.read_list.proofs.Within.{exact_code}
use Rattle.read_prototype.proofs.On.{nothing_said}
use Rattle.read_prototype.proofs.CoversParts.{covers_constants}
use Rattle.read_prototype.proofs.HeadAnswers.{Ended, ended, codes, constants, code-refused, constants-refused, upvalues-refused, all-lists, lists_err, lists-add}
use Rattle.read_prototype.proofs.parts.read_head_lists.Goals as goal
use Rattle.read_prototype.proofs.parts.read_head_lists.Goals.{In_ok-instructions, In_ok-constants}

words : (c : In_ok-instructions) → let a = c.args in
    Ended (codes a.limits a.before) count.number a.s.now a.cursor.at a.tally.now c.in_ok-instructions.instructions c.in_ok-instructions.behind c.instructions_list.new.tally
words c = ended (covers_number (exact_code _ _ _)) c.args.s.now c.args.cursor.at c.in_ok-instructions.was (c.instructions_list.ensures.value, c.instructions_list.ensures.adds) c.requires

values : (c : In_ok-constants) → let a = c.args in
    Ended (constants a.limits) (count.counted (reader.constant a.limits.max_string_bytes) (count.constant a.limits.max_string_bytes)) a.s.now c.in_ok-instructions.behind.at c.instructions_list.new.tally c.in_ok-constants.constants c.in_ok-constants.further c.constants_list.new.tally
values c =
    let words : let a = c.args in
    Ended (codes a.limits a.before) count.number a.s.now a.cursor.at a.tally.now c.in_ok-instructions.instructions c.in_ok-instructions.behind c.instructions_list.new.tally = ended (covers_number (exact_code _ _ _)) c.args.s.now c.args.cursor.at c.in_ok-instructions.was (c.instructions_list.ensures.value, c.instructions_list.ensures.adds) c.requires in
    ended (covers_constants _ _) _ c.in_ok-instructions.behind.at c.in_ok-constants.was (c.constants_list.ensures.value, c.constants_list.ensures.adds) words.room

pub constants_list-requires : goal.constants_list-requires
constants_list-requires c = (words (goal.at.constants_list-requires c).In_ok-instructions).room

pub upvalues_list-requires : goal.upvalues_list-requires
upvalues_list-requires c = (values (goal.at.upvalues_list-requires c).In_ok-constants).room

pub returns-in_err-instructions : goal.returns-in_err-instructions
returns-in_err-instructions c =
    let a = c.args in
    let p = err_from_is_err_and c.from_residual.result c.from_residual.ensures.1 in
    let both = nothing_said (lists_err _ _) (code-refused a.s.now a.limits a.before a.cursor.at _ (sym c.in_err-instructions.was ∙ c.instructions_list.ensures.value)) in
    rw (p.1, p.2) (record { value = both.0; adds = both.1 })

pub returns-in_err-constants : goal.returns-in_err-constants
returns-in_err-constants c =
    let a = c.args in
    let p = err_from_is_err_and c.from_residual-in_err-constants.result c.from_residual-in_err-constants.ensures.1 in
    let both = nothing_said (lists_err _ _) (constants-refused a.s.now a.limits a.before a.cursor.at _ _ c.in_ok-instructions.behind (words (goal.at.returns-in_err-constants c).In_ok-instructions).shown _ (sym c.in_err-constants.was ∙ c.constants_list.ensures.value)) in
    rw (p.1, p.2) (record { value = both.0; adds = both.1 })

pub returns-in_err-upvalues : goal.returns-in_err-upvalues
returns-in_err-upvalues c =
    let a = c.args in
    let p = err_from_is_err_and c.from_residual-in_err-upvalues.result c.from_residual-in_err-upvalues.ensures.1 in
    let both = nothing_said (lists_err _ _) (upvalues-refused a.s.now a.limits a.before a.cursor.at _ _ c.in_ok-instructions.behind (words (goal.at.returns-in_err-upvalues c).In_ok-instructions).shown _ _ c.in_ok-constants.further (values (goal.at.returns-in_err-upvalues c).In_ok-constants).shown _ (sym c.in_err-upvalues.was ∙ c.upvalues_list.ensures.value)) in
    rw (p.1, p.2) (record { value = both.0; adds = both.1 })

pub returns : goal.returns
returns c =
    let a = c.args in
    let one = words (goal.at.returns c).In_ok-instructions in
    let two = values (goal.at.returns c).In_ok-constants in
    record {
      value = all-lists a.s.now a.limits a.before a.cursor.at _ _ c.in_ok-instructions.behind one.shown _ _ c.in_ok-constants.further two.shown _ _ c.in_ok-upvalues.next (sym c.in_ok-upvalues.was ∙ c.upvalues_list.ensures.value);
      adds = lists-add a.s.now a.limits a.before a.cursor.at _ _ c.in_ok-instructions.behind one.shown _ _ c.in_ok-constants.further two.shown one.adds two.adds c.upvalues_list.ensures.adds;
    }
