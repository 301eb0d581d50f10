-- `copy_entry::entry::copy_local` meets its contract (`Items.antt`, `Judged.antt`). Assumes nothing.
use Rattle.copy_entry.proofs.Items.{local-put}
use Rattle.copy_entry.proofs.Judged.{local_passes}
use Rattle.copy_entry.proofs.entry.copy_local.Goals as goal

pub returns : goal.returns
returns c =
    let a = c.args in
    record {
      read_value = local_passes a.s.now a.max_string_bytes a.cursor.at c.in_ok-local.ensures;
      puts = local-put a.s.now a.max_string_bytes a.cursor.at c.in_ok-local.ensures c.put_name-named.ensures c.put_varint-first.ensures c.put_varint-behind.ensures;
    }
