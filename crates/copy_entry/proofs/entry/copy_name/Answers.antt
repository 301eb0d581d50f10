-- `copy_entry::entry::copy_name` meets its contract (`Items.antt`, `Judged.antt`). Assumes nothing.
use Rattle.copy_entry.proofs.Items.{name-put}
use Rattle.copy_entry.proofs.Judged.{name_passes}
use Rattle.copy_entry.proofs.entry.copy_name.Goals as goal

pub returns : goal.returns
returns c =
    let a = c.args in
    record {
      read_value = name_passes a.s.now a.max_string_bytes a.cursor.at c.in_ok-string.ensures;
      puts = name-put a.s.now a.max_string_bytes a.cursor.at c.in_ok-string.ensures c.put_string-behind.ensures;
    }
