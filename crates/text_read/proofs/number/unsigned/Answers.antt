-- `text_read::number::unsigned` meets its contract: each digit by its law (NumberLaws.antt). Assumes nothing.
use Rattle.std.proofs.Common.{◌≡◌, ◌+◌, ◌*◌, ◌∙◌, Some, drop, ap, sym, arith, rules}
use Rattle.text_read.specs.Inner.Numbers.{spelling}
use Rattle.text_read.proofs.NumberLaws.{spelling-end, no_digit, above, too_large, one_digit}
use Rattle.text_read.proofs.number.unsigned.Goals as goal

pub returns-in_err-digit-clause-value : goal.returns-in_err-digit-clause-value
returns-in_err-digit-clause-value c =
    let l = c.loop-b in
    c.from_residual.ensures
    ∙ sym (no_digit c.args.base c.args.most l.value c.args.s.now l.b-index c.loop-b-test.true
    (sym c.digit.ensures.value ∙ c.in_err-digit.was))
    ∙ l.invariant.1

pub returns-then-base-d-clause-value : goal.returns-then-base-d-clause-value
returns-then-base-d-clause-value c =
    let l = c.loop-b in
    sym (above c.args.base c.args.most l.value c.args.s.now l.b-index c.loop-b-test.true c.from-d.result
    (sym c.digit.ensures.value ∙ c.in_ok-digit.was ∙ ap Some (sym c.from-d.ensures)) c.if-base-d.true)
    ∙ l.invariant.1

pub returns-in_err-checked_mul-clause-value : goal.returns-in_err-checked_mul-clause-value
returns-in_err-checked_mul-clause-value c =
    let l = c.loop-b in
    c.from_residual-in_err-checked_mul.ensures
    ∙ sym (too_large c.args.base c.args.most l.value c.args.s.now l.b-index c.loop-b-test.true c.from-d.result
    (sym c.digit.ensures.value ∙ c.in_ok-digit.was ∙ ap Some (sym c.from-d.ensures)) (omega arith)
    (omega (arith, c.in_err-checked_mul.ensures)))
    ∙ l.invariant.1

pub returns-in_err-value-clause-value : goal.returns-in_err-value-clause-value
returns-in_err-value-clause-value c =
    let l = c.loop-b in
    c.from_residual-in_err-value.ensures
    ∙ sym (too_large c.args.base c.args.most l.value c.args.s.now l.b-index c.loop-b-test.true c.from-d.result
    (sym c.digit.ensures.value ∙ c.in_ok-digit.was ∙ ap Some (sym c.from-d.ensures)) (omega arith)
    (omega (arith, c.in_ok-checked_mul.ensures, c.in_err-value.ensures)))
    ∙ l.invariant.1

pub returns-then-most-value-clause-value : goal.returns-then-most-value-clause-value
returns-then-most-value-clause-value c =
    let l = c.loop-b in
    sym (too_large c.args.base c.args.most l.value c.args.s.now l.b-index c.loop-b-test.true c.from-d.result
    (sym c.digit.ensures.value ∙ c.in_ok-digit.was ∙ ap Some (sym c.from-d.ensures)) (omega arith)
    (omega (arith, c.in_ok-checked_mul.ensures, c.in_ok-value.ensures)))
    ∙ l.invariant.1

pub loop-b-preserved : goal.loop-b-preserved
loop-b-preserved c =
    let l = c.loop-b in
    let d = c.from-d.result in
    let e : c.in_ok-value.value ≡ l.value * c.args.base + d =
    omega (arith, c.in_ok-checked_mul.ensures, c.in_ok-value.ensures) in (
      search rules,
      ap (λ n. spelling c.args.base c.args.most (Some n) (drop (l.b-index + 1) c.args.s.now)) e
          ∙ sym (one_digit c.args.base c.args.most l.value c.args.s.now l.b-index c.loop-b-test.true d
          (sym c.digit.ensures.value ∙ c.in_ok-digit.was ∙ ap Some (sym c.from-d.ensures)) (omega arith)
          (omega (arith, e)))
          ∙ l.invariant.1,
    )

pub returns-clause-value : goal.returns-clause-value
returns-clause-value c =
    let l = c.loop-b in
    sym (spelling-end c.args.base c.args.most l.value c.args.s.now l.b-index (omega arith)) ∙ l.invariant.1
