-- `strict_walk::list::pass_names_list` meets its contract: an int, and as many strings (`Lists.antt`). Assumes nothing.
use Rattle.format.specs.Read.{many}
use Rattle.format.specs.ReadFields.{string}
use Rattle.format_strict.proofs.ExactStrict.{exact_int}
use Rattle.strict_walk.proofs.Lists.{count_passes}
use Rattle.strict_walk.proofs.list.pass_names_list.Goals as goal

pub returns : goal.returns
returns c =
    let a = c.args in
    count_passes exact_int (λ n. many n (string a.max_string_bytes)) a.s.now a.cursor.at c.read_int.ensures c.in_ok-value.was c.pass_strings.ensures
