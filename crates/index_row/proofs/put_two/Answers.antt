-- `index_row::put_two` meets its contract: two stores are one piece. Assumes nothing.
use mathlib.Core.Path.{◌∙◌, ap}
use mathlib.Core.List.{[], ◌∷◌}
use Prim.Native.Nat.{◌+◌}
use native.Mathlib.Omega.{arith}
use lib.ListN.{length-set}
use borrow.Author.Rules.{rules}
use Rattle.slice.specs.Inner.Splice.{splice}
use Rattle.slice.proofs.Splices.{splice_set, splice_then}
use Rattle.index_row.specs.Inner.Stored.{low}
use Rattle.index_row.proofs.put_two.Goals as goal

pub bounds-rows-at-2 : goal.bounds-rows-at-2
bounds-rows-at-2 c = simp length-set (omega arith)

pub returns : goal.returns
returns c = let a = c.args in
    rw (c.narrow-2.ensures, c.narrow.ensures)
    (splice_set (a.at + 1) (low a.b) _ (simp length-set (omega arith))
    ∙ ap (splice (a.at + 1) (low a.b ∷ [])) (splice_set a.at (low a.a) a.rows.now (omega arith))
    ∙ splice_then a.at (low a.a ∷ []) (low a.b ∷ []) a.rows.now (omega arith))
