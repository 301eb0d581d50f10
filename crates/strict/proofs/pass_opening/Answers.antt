-- `strict::pass_opening` meets its contract: the parts of the header and a byte, one behind the other (strict_entry's `Chains.antt`). Assumes nothing.
use Rattle.std.proofs.lemmas.Result.{err_from_is_err_and}
use mathlib.Core.Path.{sym, ◌∙◌, ap}
use mathlib.Core.List.{[], ◌∷◌}
use lib.ListN.{drop}
use Rattle.format.specs.declared.refusal.Refusal.TheVariants.{Format}
use Rattle.format.specs.ReadHeader.{expect, before_format, behind_format}
use Rattle.format.proofs.ExactHeader.{exact_expect, exact_before, exact_behind}
use Rattle.slice.specs.Inner.Results.{cursor_result}
use Rattle.strict_entry.proofs.Chains.{stops, passes}
use Rattle.strict.proofs.Opened.{opened, one, behind_back, behind_format_byte, behind_front}
use Rattle.strict.proofs.pass_opening.Goals as goal

pub returns-in_err-behind : goal.returns-in_err-behind
returns-in_err-behind c =
    let a = c.args in
    let p = err_from_is_err_and c.from_residual-in_err-behind.result c.from_residual-in_err-behind.ensures.1 in
    rw (p.1, p.2)
    (sym c.in_err-behind.was
    ∙ passes before_format (λ _. behind_front) a.s.now 0 c.before_format.ensures exact_before c.in_ok-place.was (λ _.
    stops (expect (0 ∷ []) Format) (λ _. behind_format_byte) a.s.now c.in_ok-place.place.at c.expect.ensures c.in_err-behind.was)
    ∙ sym (ap cursor_result (opened 0 a.s.now)))

pub returns-in_err-last : goal.returns-in_err-last
returns-in_err-last c =
    let a = c.args in
    let p = err_from_is_err_and c.from_residual-in_err-last.result c.from_residual-in_err-last.ensures.1 in
    rw (p.1, p.2)
    (sym c.in_err-last.was
    ∙ passes before_format (λ _. behind_front) a.s.now 0 c.before_format.ensures exact_before c.in_ok-place.was (λ _.
    passes (expect (0 ∷ []) Format) (λ _. behind_format_byte) a.s.now c.in_ok-place.place.at c.expect.ensures
    (exact_expect (0 ∷ []) Format) c.in_ok-behind.was (λ _.
    stops behind_format (λ _. behind_back) a.s.now c.in_ok-behind.behind.at c.behind_format.ensures c.in_err-last.was))
    ∙ sym (ap cursor_result (opened 0 a.s.now)))

pub returns : goal.returns
returns c =
    let a = c.args in
    passes before_format (λ _. behind_front) a.s.now 0 c.before_format.ensures exact_before c.in_ok-place.was (λ _.
    passes (expect (0 ∷ []) Format) (λ _. behind_format_byte) a.s.now c.in_ok-place.place.at c.expect.ensures
    (exact_expect (0 ∷ []) Format) c.in_ok-behind.was (λ _.
    passes behind_format (λ _. behind_back) a.s.now c.in_ok-behind.behind.at c.behind_format.ensures exact_behind c.in_ok-last.was (λ _.
    c.read_exact.ensures ∙ one c.in_ok-last.last.at (drop c.in_ok-last.last.at a.s.now))))
    ∙ sym (ap cursor_result (opened 0 a.s.now))
