-- `copy_full::full_copy_length` meets its contract: by what judging showed (`PlainFull.antt`). Assumes nothing.
use mathlib.Core.Path.{sym, ◌∙◌}
use Rattle.copy.proofs.Outcomes.{all-bytes}
use Rattle.copy_full.proofs.PlainFull.{full_answer}
use Rattle.copy_full.proofs.full_copy_length.Goals as goal

pub returns : goal.returns
returns c =
    let a = c.args in
    full_answer a.s.now a.limits (all-bytes a.s.now (λ i h. (c.type_inv.s i).fits)) _ c.in_ok-spelling.spelling c.in_ok-spelling.ensures
    (sym c.is_plain_in_full.ensures ∙ c.if-not-is_plain_in_full.false)
