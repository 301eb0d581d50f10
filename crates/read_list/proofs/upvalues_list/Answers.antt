-- `read_list::upvalues_list` meets its contract: by whether the count is read (`Counted.antt`). Assumes nothing.
use Rattle.std.proofs.lemmas.Result.{err_from_is_err_and}
use borrow.Author.Rules.{rules}
use Rattle.format.specs.declared.refusal.Refusal.TheVariants.{Upvalues}
use Rattle.format.proofs.ExactChunk.{exact_upvalue}
use Rattle.read_list.proofs.Listing.{up_to_list}
use Rattle.read_list.proofs.Counted.{list_refused, list_run}
use Rattle.read_list.proofs.upvalues_list.Goals as goal

pub returns-in_err-value : goal.returns-in_err-value
returns-in_err-value c =
    let p = err_from_is_err_and c.from_residual.result c.from_residual.ensures.1 in
    rw (p.1, p.2) (let a = c.args in let both = list_refused (up_to_list exact_upvalue a.s.now a.cursor.at a.max_upvalues Upvalues) (c.count_up_to.ensures.value, c.count_up_to.ensures.adds) c.in_err-value.was in record { value = both.0; adds = both.1 })

pub returns : goal.returns
returns c = let a = c.args in let both = list_run (up_to_list exact_upvalue a.s.now a.cursor.at a.max_upvalues Upvalues) (c.count_up_to.ensures.value, c.count_up_to.ensures.adds) c.in_ok-value.was c.skip_upvalues.ensures c.listed.ensures in record { value = both.0; adds = both.1 }
