-- `read_list::protos_count` meets its contract: by whether the count is read (`Counts.antt`). Assumes nothing.
use Rattle.std.proofs.lemmas.Result.{err_from_is_err_and}
use borrow.Author.Rules.{rules}
use Rattle.read_list.proofs.Counts.{protos-shown}
use Rattle.read_list.proofs.protos_count.Goals as goal

pub returns-in_err-value : goal.returns-in_err-value
returns-in_err-value c =
    let p = err_from_is_err_and c.from_residual.result c.from_residual.ensures.1 in
    rw (p.1, p.2) (let a = c.args in let both = protos-shown a.max_total_prototypes a.s.now a.cursor.at (c.count_up_to.ensures.value, c.count_up_to.ensures.adds) c.in_err-value.was in record { value = both.0; adds = both.1 })

pub returns : goal.returns
returns c = let a = c.args in let both = protos-shown a.max_total_prototypes a.s.now a.cursor.at (c.count_up_to.ensures.value, c.count_up_to.ensures.adds) c.in_ok-value.was in record { value = both.0; adds = both.1 }
