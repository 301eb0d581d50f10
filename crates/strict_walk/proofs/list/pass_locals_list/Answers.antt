-- `strict_walk::list::pass_locals_list` meets its contract: an int, and as many local variables (`Lists.antt`). Assumes nothing.
use Rattle.format.specs.Read.{many}
use Rattle.format_strict.specs.ReadStrict.{strict_local}
use Rattle.format_strict.proofs.ExactStrict.{exact_int}
use Rattle.strict_walk.proofs.Lists.{count_passes}
use Rattle.strict_walk.proofs.list.pass_locals_list.Goals as goal

pub returns : goal.returns
returns c =
    let a = c.args in
    count_passes exact_int (λ n. many n (strict_local a.max_string_bytes)) a.s.now a.cursor.at c.read_int.ensures c.in_ok-value.was c.pass_locals.ensures
