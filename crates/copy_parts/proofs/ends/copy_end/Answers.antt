-- `copy_parts::ends::copy_end` meets its contract: by what `copy_tail` showed and put (`EndsPut.antt`). Assumes nothing.
use mathlib.Core.Path.{refl}
use lib.ListN.{drop}
use Rattle.read_prototype.specs.Parts.{tail}
use Rattle.copy_parts.proofs.EndsPut.{end_read}
use Rattle.copy_parts.proofs.ends.copy_end.Goals as goal

pub returns : goal.returns
returns c =
    let a = c.args in
    record {
      upvalues_value = refl;
      walk_value = end_read a.nested (tail a.limits.max_string_bytes a.nested.next.at (drop a.nested.next.at a.s.now)) _ c.in_ok-ends.ensures.read_value;
      puts_tail = c.in_ok-ends.ensures.puts_tail;
    }
