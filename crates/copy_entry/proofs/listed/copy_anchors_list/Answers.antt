-- `copy_entry::listed::copy_anchors_list` meets its contract: by whether the count is read (`Listing.antt` of read_list), and by what the entries show and put. Assumes nothing.
use Rattle.std.proofs.lemmas.Result.{err_from_is_err_and}
use mathlib.Core.Path.{refl}
use Rattle.format.proofs.ExactFields.{exact_number}
use Rattle.format.proofs.ExactChunk.{exact_anchor}
use Rattle.read_list.proofs.Listing.{many_sized, count-read}
use Rattle.copy_entry.proofs.listed.copy_anchors_list.Goals as goal

pub returns-in_err-items : goal.returns-in_err-items
returns-in_err-items c =
    let a = c.args in
    let p = err_from_is_err_and c.from_residual-in_err-items.result c.from_residual-in_err-items.ensures.1 in
    rw (p.1, p.2) (record {
      list_value = count-read exact_number (many_sized exact_anchor) a.s.now a.cursor.at c.in_ok-value.was c.read_value.ensures c.in_err-items.ensures.read_value refl;
      puts_listed = tt;
    })

pub returns : goal.returns
returns c =
    let a = c.args in
    record {
      list_value = count-read exact_number (many_sized exact_anchor) a.s.now a.cursor.at c.in_ok-value.was c.read_value.ensures c.in_ok-items.ensures.read_value refl;
      puts_listed = c.in_ok-items.ensures.puts_all;
    }
