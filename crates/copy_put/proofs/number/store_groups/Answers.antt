-- `copy_put::number::store_groups` meets its contract. The invariant is `Stores.antt`'s `Stored`. Assumes nothing.
use Rattle.copy_put.proofs.Stores.{stored-none, stored_next, stored-all}
use Rattle.copy_put.proofs.number.store_groups.Goals as goal

pub loop-i-init : goal.loop-i-init
loop-i-init c = stored-none _ _ _ _

pub loop-i-preserved : goal.loop-i-preserved
loop-i-preserved c = stored_next _ _ _ _ _ _ _ c.requires c.loop-i.invariant c.loop-i-test.true

pub returns : goal.returns
returns c = stored-all _ _ _ _ _ _ _ c.loop-i.invariant c.loop-i-test.false
