-- `copy_put::header::put_front` meets its contract. Assumes nothing.
use lib.Dec.{lit≤}
use Rattle.copy_put.proofs.Writes.{put_then}
use Rattle.copy_put.proofs.header.put_front.Goals as goal

pub returns : goal.returns
returns c = put_then (c.put_bytes-behind.ensures (lit≤ tt)) c.put_byte.ensures
