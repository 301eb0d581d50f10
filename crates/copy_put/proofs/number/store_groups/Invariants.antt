-- `copy_put::number::store_groups` meets its contract. The invariant is `Stores.antt`'s `Stored`. Assumes nothing.
use Rattle.copy_put.proofs.Stores.{Stored}
use Rattle.copy_put.proofs.number.store_groups.Given as goal

abbrev pub invariant-loop-i : goal.invariant-loop-i
invariant-loop-i l = Stored l.at l.n l.v l.initial.out l.i l.rest l.out
