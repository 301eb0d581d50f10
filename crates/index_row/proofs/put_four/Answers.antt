-- `index_row::put_four` meets its contract: four stores are one piece. Assumes nothing.
use native.Mathlib.Omega.{arith}
use lib.ListN.{length-set}
use borrow.Author.Rules.{rules}
use Rattle.slice.proofs.Splices.{splice_four}
use Rattle.index_row.proofs.put_four.Goals as goal

pub bounds-rows-at-2 : goal.bounds-rows-at-2
bounds-rows-at-2 c = simp length-set (omega arith)

pub bounds-rows-at-3 : goal.bounds-rows-at-3
bounds-rows-at-3 c = simp length-set (omega arith)

pub bounds-rows-at-4 : goal.bounds-rows-at-4
bounds-rows-at-4 c = simp length-set (omega arith)

pub returns : goal.returns
returns c = rw (c.narrow-4.ensures, c.narrow-3.ensures, c.narrow-2.ensures, c.narrow.ensures) (splice_four c.args.at _ _ _ _ c.args.rows.now c.requires)
