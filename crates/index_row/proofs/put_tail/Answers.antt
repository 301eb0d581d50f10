-- `index_row::put_tail` meets its contract: four numbers, then one before them. Assumes nothing.
use Prim.Native.Nat.{◌*◌, ◌+◌}
use native.Mathlib.Omega.{arith}
use borrow.Author.Rules.{rules}
use Rattle.slice.proofs.Splices.{splice-length, splice_set}
use Rattle.index_row.specs.Inner.Stored.{COLUMNS, low, stored_tail}
use Rattle.index_row.proofs.put_tail.Goals as goal

pub returns-then-number-rows : goal.returns-then-number-rows
returns-then-number-rows c = λ h. let long = splice-length (COLUMNS * c.args.number + 8) (stored_tail c.args.tail) c.args.rows.now (omega (arith, h)) in
    rw (c.narrow.ensures, c.put_four.ensures) (splice_set (COLUMNS * c.args.number + 1) (low c.args.end) _ (omega (arith, h, long)))

pub returns-else-number-rows : goal.returns-else-number-rows
returns-else-number-rows c = λ h. absurd (omega (arith, h))
