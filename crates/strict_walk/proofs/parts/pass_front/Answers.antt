-- `strict_walk::parts::pass_front` meets its contract: a source, two ints and three bytes, one behind the other (strict_entry's `Chains.antt`). Assumes nothing.
use Rattle.std.proofs.lemmas.Result.{err_from_is_err_and}
use mathlib.Core.Path.{sym, ◌∙◌}
use lib.ListN.{drop}
use Rattle.format.specs.ReadFields.{string}
use Rattle.format.proofs.ExactFields.{exact_string}
use Rattle.format_strict.specs.ReadStrict.{int}
use Rattle.format_strict.proofs.ExactStrict.{exact_int}
use Rattle.strict_entry.proofs.Chains.{stops, passes}
use Rattle.strict_walk.proofs.Continued.{front_of, behind_last, behind_first, behind_source}
use Rattle.strict_walk.proofs.HeadAnswers.{three}
use Rattle.strict_walk.proofs.parts.pass_front.Goals as goal

pub returns-in_err-further : goal.returns-in_err-further
returns-in_err-further c =
    let a = c.args in
    let p = err_from_is_err_and c.from_residual-in_err-further.result c.from_residual-in_err-further.ensures.1 in
    rw (p.1, p.2) (sym c.in_err-further.was ∙ passes (string a.max_string_bytes) (behind_source) a.s.now a.cursor.at c.pass_string.ensures (exact_string a.max_string_bytes) c.in_ok-behind.was (λ source. stops int (behind_first source) a.s.now c.in_ok-behind.behind.at c.pass_int.ensures c.in_err-further.was))

pub returns-in_err-next : goal.returns-in_err-next
returns-in_err-next c =
    let a = c.args in
    let p = err_from_is_err_and c.from_residual-in_err-next.result c.from_residual-in_err-next.ensures.1 in
    rw (p.1, p.2) (sym c.in_err-next.was ∙ passes (string a.max_string_bytes) (behind_source) a.s.now a.cursor.at c.pass_string.ensures (exact_string a.max_string_bytes) c.in_ok-behind.was (λ source. passes int (behind_first source) a.s.now c.in_ok-behind.behind.at c.pass_int.ensures exact_int c.in_ok-further.was (λ first. stops int (behind_last source first) a.s.now c.in_ok-further.further.at c.pass_int-2.ensures c.in_err-next.was)))

pub returns : goal.returns
returns c =
    let a = c.args in
    passes (string a.max_string_bytes) (behind_source) a.s.now a.cursor.at c.pass_string.ensures (exact_string a.max_string_bytes) c.in_ok-behind.was (λ source. passes int (behind_first source) a.s.now c.in_ok-behind.behind.at c.pass_int.ensures exact_int c.in_ok-further.was (λ first. passes int (behind_last source first) a.s.now c.in_ok-further.further.at c.pass_int-2.ensures exact_int c.in_ok-next.was (λ last. c.skip_upvalues.ensures ∙ three (front_of source first last) c.in_ok-next.next.at (drop c.in_ok-next.next.at a.s.now))))
