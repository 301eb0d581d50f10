-- `strict_walk::list::pass_line_info_list` meets its contract: an int, and as many bytes (`Lists.antt`). Assumes nothing.
use Rattle.format.specs.Read.{run}
use Rattle.format_strict.proofs.ExactStrict.{exact_int}
use Rattle.strict_walk.proofs.Lists.{count_passes}
use Rattle.strict_walk.proofs.list.pass_line_info_list.Goals as goal

pub returns : goal.returns
returns c =
    let a = c.args in
    count_passes exact_int run a.s.now a.cursor.at c.read_int.ensures c.in_ok-value.was c.read_exact.ensures
