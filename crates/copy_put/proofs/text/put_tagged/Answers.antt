-- `copy_put::text::put_tagged` meets its contract. Assumes nothing.
use Rattle.copy_put.proofs.Writes.{put_then}
use Rattle.copy_put.proofs.text.put_tagged.Goals as goal

pub returns : goal.returns
returns c = λ h. put_then c.put_byte-behind.ensures (c.put_present.ensures h)
