-- `copy_entry::entry::copy_constant` meets its contract (`Items.antt`, `Judged.antt`). Assumes nothing.
use Rattle.copy_entry.proofs.Items.{constant-put}
use Rattle.copy_entry.proofs.Judged.{constant_passes}
use Rattle.copy_entry.proofs.entry.copy_constant.Goals as goal

pub returns : goal.returns
returns c =
    let a = c.args in
    record {
      read_value = constant_passes a.s.now a.max_string_bytes a.cursor.at c.in_ok-value.ensures;
      puts = λ bytes. constant-put a.s.now a.max_string_bytes a.cursor.at bytes c.in_ok-value.ensures c.put_value-behind.ensures;
    }
