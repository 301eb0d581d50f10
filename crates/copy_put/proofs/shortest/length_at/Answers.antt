-- `copy_put::shortest::length_at` meets its contract: each arm is told its number, at which the table has its length. The check finds all of these by itself; two have names here, for the edits that break them. Assumes nothing.
use Rattle.copy_put.specs.Lengths.{lengths}
use Rattle.copy_put.proofs.Table.{told}
use Rattle.copy_put.proofs.shortest.length_at.Goals as goal

pub returns-in-7 : goal.returns-in-7
unfolding lengths
returns-in-7 c = told c.in-7.is

-- the length of 0
pub returns-in-64 : goal.returns-in-64
unfolding lengths
returns-in-64 c = told c.in-64.is
