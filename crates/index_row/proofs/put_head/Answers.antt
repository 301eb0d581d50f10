-- `index_row::put_head` meets its contract: two pieces of four numbers, the second right behind the first, and one of two further on. Assumes nothing.
use Prim.Native.Nat.{◌*◌}
use mathlib.Core.Path.{◌∙◌, ap}
use native.Mathlib.Omega.{arith}
use borrow.Author.Rules.{rules}
use Rattle.slice.specs.Inner.Splice.{splice}
use Rattle.slice.proofs.Splices.{splice_then}
use Rattle.index_row.specs.Inner.Stored.{COLUMNS}
use Rattle.index_row.proofs.put_head.Goals as goal

pub returns-then-rows-number : goal.returns-then-rows-number
returns-then-rows-number c = λ h. absurd (omega (arith, h))

pub returns : goal.returns
returns c = λ h. c.put_two.ensures
    ∙ ap (splice _ _) (c.put_four-2.ensures ∙ ap (splice _ _) c.put_four.ensures ∙ splice_then (COLUMNS * c.args.number) _ _ c.args.rows.now (omega (arith, h)))
