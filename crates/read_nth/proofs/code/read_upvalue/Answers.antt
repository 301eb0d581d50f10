-- `read_nth::code::read_upvalue` meets its contract: three bytes, one after the other (`ThreeBytes.antt` of read_field). Assumes nothing.
use mathlib.Core.Path.{sym, ◌∙◌}
use Rattle.read_field.proofs.ThreeBytes.{three_read}
use Rattle.read_nth.specs.Shown.{upvalue_result}
use Rattle.read_nth.proofs.code.read_upvalue.Goals as goal

pub returns : goal.returns
returns c = let a = c.args in
    three_read (λ instack idx kind. record { instack = instack; idx = idx; kind = kind }) upvalue_result a.s.now a.cursor.at _ _ (sym c.in_ok-instack.was ∙ c.read_u8.ensures) _ _ (sym c.in_ok-idx.was ∙ c.read_u8-2.ensures) _ _ (sym c.in_ok-kind.was ∙ c.read_u8-3.ensures)
