-- `copy_entry::entry::copy_anchor` meets its contract (`Items.antt`, `Judged.antt`). Assumes nothing.
use Rattle.copy_entry.proofs.Items.{anchor-put}
use Rattle.copy_entry.proofs.Judged.{anchor_passes}
use Rattle.copy_entry.proofs.entry.copy_anchor.Goals as goal

pub returns : goal.returns
returns c =
    let a = c.args in
    record {
      read_value = anchor_passes a.s.now a.cursor.at c.in_ok-anchor.ensures;
      puts = anchor-put a.s.now a.cursor.at c.in_ok-anchor.ensures c.put_varint-first.ensures c.put_varint-behind.ensures;
    }
