-- `read_list::instructions_list` meets its contract: by whether the count is read (`Counted.antt`). Assumes nothing.
use Rattle.std.proofs.lemmas.Result.{err_from_is_err_and}
use borrow.Author.Rules.{rules}
use Rattle.read_list.proofs.Counts.{code_list}
use Rattle.read_list.proofs.Counted.{list_refused, list_run}
use Rattle.read_list.proofs.instructions_list.Goals as goal

pub returns-in_err-value : goal.returns-in_err-value
returns-in_err-value c =
    let p = err_from_is_err_and c.from_residual.result c.from_residual.ensures.1 in
    rw (p.1, p.2) (let a = c.args in let both = list_refused (code_list a.max_instructions_per_proto a.instructions_before a.max_total_instructions a.s.now a.cursor.at) (c.instruction_count.ensures.value, c.instruction_count.ensures.adds) c.in_err-value.was in record { value = both.0; adds = both.1 })

pub returns : goal.returns
returns c = let a = c.args in let both = list_run (code_list a.max_instructions_per_proto a.instructions_before a.max_total_instructions a.s.now a.cursor.at) (c.instruction_count.ensures.value, c.instruction_count.ensures.adds) c.in_ok-value.was c.skip_words.ensures c.listed.ensures in record { value = both.0; adds = both.1 }
