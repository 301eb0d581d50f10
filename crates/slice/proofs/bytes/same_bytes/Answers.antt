-- `slice::bytes::same_bytes` meets its contract. Assumes nothing.
use mathlib.Core.Path.{◌∙◌, ap}
use Rattle.format.specs.ReadHeader.{same_bytes}
use Rattle.slice.proofs.Same.{pointwise_same}
use Rattle.slice.proofs.bytes.same_bytes.Goals as goal

pub returns : goal.returns
returns c = c.eq.ensures ∙ pointwise_same _ c.args.bytes.now ∙ ap (λ xs. same_bytes xs c.args.bytes.now) c.bytes_at.ensures
