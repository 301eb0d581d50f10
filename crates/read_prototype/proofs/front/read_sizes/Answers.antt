-- `read_prototype::front::read_sizes` meets its contract: three bytes, one after the other (`ThreeBytes.antt` of read_field). Assumes nothing.
use Rattle.std.proofs.lemmas.Result.{err_from_is_err_and}
use mathlib.Core.Path.{sym, ◌∙◌}
use borrow.Author.Rules.{rules}
use Rattle.read_field.proofs.ThreeBytes.{first_refused, second_refused, third_refused, three_read}
use Rattle.read_prototype.specs.Inner.Results.{sizes_result}
use Rattle.read_prototype.proofs.front.read_sizes.Goals as goal

pub returns-in_err-numparams : goal.returns-in_err-numparams
returns-in_err-numparams c =
    let p = err_from_is_err_and c.from_residual.result c.from_residual.ensures.1 in
    rw (p.1, p.2) (let a = c.args in first_refused (λ a b x. record { numparams = a; is_vararg = b; maxstacksize = x }) sizes_result a.s.now a.cursor.at _ (sym c.in_err-numparams.was ∙ c.read_u8.ensures))

pub returns-in_err-is_vararg : goal.returns-in_err-is_vararg
returns-in_err-is_vararg c =
    let p = err_from_is_err_and c.from_residual-in_err-is_vararg.result c.from_residual-in_err-is_vararg.ensures.1 in
    rw (p.1, p.2) (let a = c.args in
    second_refused (λ a b x. record { numparams = a; is_vararg = b; maxstacksize = x }) sizes_result a.s.now a.cursor.at _ _ (sym c.in_ok-numparams.was ∙ c.read_u8.ensures) _ (sym c.in_err-is_vararg.was ∙ c.read_u8-2.ensures))

pub returns-in_err-maxstacksize : goal.returns-in_err-maxstacksize
returns-in_err-maxstacksize c =
    let p = err_from_is_err_and c.from_residual-in_err-maxstacksize.result c.from_residual-in_err-maxstacksize.ensures.1 in
    rw (p.1, p.2) (let a = c.args in
    third_refused (λ a b x. record { numparams = a; is_vararg = b; maxstacksize = x }) sizes_result a.s.now a.cursor.at _ _ (sym c.in_ok-numparams.was ∙ c.read_u8.ensures) _ _ (sym c.in_ok-is_vararg.was ∙ c.read_u8-2.ensures) _ (sym c.in_err-maxstacksize.was ∙ c.read_u8-3.ensures))

pub returns : goal.returns
returns c = let a = c.args in
    three_read (λ a b x. record { numparams = a; is_vararg = b; maxstacksize = x }) sizes_result a.s.now a.cursor.at _ _ (sym c.in_ok-numparams.was ∙ c.read_u8.ensures) _ _ (sym c.in_ok-is_vararg.was ∙ c.read_u8-2.ensures) _ _ (sym c.in_ok-maxstacksize.was ∙ c.read_u8-3.ensures)
