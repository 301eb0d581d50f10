-- `strict_walk::parts::pass_tail` meets its contract: four lists, one behind the other (strict_entry's `Chains.antt`). Assumes nothing.
use Rattle.std.proofs.lemmas.Result.{err_from_is_err_and}
use mathlib.Core.Path.{sym, ◌∙◌}
use lib.ListN.{drop}
use Rattle.format.specs.ReadFields.{string}
use Rattle.format_strict.specs.ReadStrict.{strict_counted, strict_anchor, strict_local}
use Rattle.format_strict.proofs.ExactStrict.{exact_strict_counted, exact_strict_anchor, exact_strict_local}
use Rattle.strict_entry.proofs.Chains.{stops, passes, value}
use Rattle.strict_walk.specs.Inner.StrictParts.{strict_line_info}
use Rattle.strict_walk.proofs.Continued.{tail_of, behind_locals, behind_anchors, behind_deltas}
use Rattle.strict_walk.proofs.Exacts.{exact_line_info}
use Rattle.strict_walk.proofs.parts.pass_tail.Goals as goal

pub returns-in_err-further : goal.returns-in_err-further
returns-in_err-further c =
    let a = c.args in
    let p = err_from_is_err_and c.from_residual-in_err-further.result c.from_residual-in_err-further.ensures.1 in
    rw (p.1, p.2) (sym c.in_err-further.was ∙ passes strict_line_info (behind_deltas a.max_string_bytes) a.s.now a.cursor.at c.pass_line_info_list.ensures exact_line_info c.in_ok-behind.was (λ deltas. stops (strict_counted strict_anchor) (behind_anchors a.max_string_bytes deltas) a.s.now c.in_ok-behind.behind.at c.pass_anchors_list.ensures c.in_err-further.was))

pub returns-in_err-next : goal.returns-in_err-next
returns-in_err-next c =
    let a = c.args in
    let p = err_from_is_err_and c.from_residual-in_err-next.result c.from_residual-in_err-next.ensures.1 in
    rw (p.1, p.2) (sym c.in_err-next.was ∙ passes strict_line_info (behind_deltas a.max_string_bytes) a.s.now a.cursor.at c.pass_line_info_list.ensures exact_line_info c.in_ok-behind.was (λ deltas. passes (strict_counted strict_anchor) (behind_anchors a.max_string_bytes deltas) a.s.now c.in_ok-behind.behind.at c.pass_anchors_list.ensures (exact_strict_counted exact_strict_anchor) c.in_ok-further.was (λ anchors. stops (strict_counted (strict_local a.max_string_bytes)) (behind_locals a.max_string_bytes deltas anchors) a.s.now c.in_ok-further.further.at c.pass_locals_list.ensures c.in_err-next.was)))

pub returns : goal.returns
returns c =
    let a = c.args in
    passes strict_line_info (behind_deltas a.max_string_bytes) a.s.now a.cursor.at c.pass_line_info_list.ensures exact_line_info c.in_ok-behind.was (λ deltas. passes (strict_counted strict_anchor) (behind_anchors a.max_string_bytes deltas) a.s.now c.in_ok-behind.behind.at c.pass_anchors_list.ensures (exact_strict_counted exact_strict_anchor) c.in_ok-further.was (λ anchors. passes (strict_counted (strict_local a.max_string_bytes)) (behind_locals a.max_string_bytes deltas anchors) a.s.now c.in_ok-further.further.at c.pass_locals_list.ensures (exact_strict_counted (exact_strict_local a.max_string_bytes)) c.in_ok-next.was (λ locals. c.pass_names_list.ensures ∙ sym (value (strict_counted (string a.max_string_bytes) c.in_ok-next.next.at (drop c.in_ok-next.next.at a.s.now)) (tail_of a.max_string_bytes deltas anchors locals)))))
