-- `copy_put::raw::put_byte` meets its contract. Assumes nothing.
use mathlib.Core.Path.{refl}
use native.Mathlib.Omega.{arith}
use Rattle.slice.proofs.Splices.{splice_set}
use Rattle.copy_put.proofs.Writes.{put-room, put-none}
use Rattle.copy_put.proofs.raw.put_byte.Goals as goal

pub returns-then-out-at : goal.returns-then-out-at
returns-then-out-at c = let full = c.if-out-at.true in put-none (omega arith) c.plus.ensures

pub returns : goal.returns
returns c = let free = c.if-out-at.false in put-room (omega arith) refl (splice_set _ _ _ (omega arith))
