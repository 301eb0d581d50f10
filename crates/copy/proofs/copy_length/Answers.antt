-- `copy::copy_length` meets its contract: by what judging showed (`PlainChunks.antt`). Assumes nothing.
use mathlib.Core.Path.{sym, ◌∙◌}
use Rattle.copy.proofs.Outcomes.{all-bytes}
use Rattle.copy.proofs.PlainChunks.{plain_answer}
use Rattle.copy.proofs.copy_length.Goals as goal

pub returns : goal.returns
returns c =
    let a = c.args in
    plain_answer a.s.now a.limits (all-bytes a.s.now (λ i h. (c.type_inv.s i).fits)) _ c.in_ok-spelling.spelling c.in_ok-spelling.ensures
    (sym c.is_plain.ensures ∙ c.if-not-is_plain.false)
