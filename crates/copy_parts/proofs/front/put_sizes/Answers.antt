-- `copy_parts::front::put_sizes` meets its contract. Assumes nothing.
use Rattle.copy_put.proofs.Writes.{put_then}
use Rattle.copy_parts.proofs.front.put_sizes.Goals as goal

pub returns : goal.returns
returns c = put_then c.put_byte-first.ensures (put_then c.put_byte-second.ensures c.put_byte.ensures)
