-- `copy_parts::front::put_lines` meets its contract. Assumes nothing.
use Rattle.copy_put.proofs.Writes.{put_then}
use Rattle.copy_parts.proofs.front.put_lines.Goals as goal

pub returns : goal.returns
returns c = put_then c.put_varint-first.ensures c.put_varint.ensures
