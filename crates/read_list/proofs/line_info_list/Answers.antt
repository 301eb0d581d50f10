-- `read_list::line_info_list` meets its contract: by whether the count is read (`Counted.antt`). Assumes nothing.
use Rattle.std.proofs.lemmas.Result.{err_from_is_err_and}
use borrow.Author.Rules.{rules}
use Rattle.read_list.proofs.Listing.{line_info_list}
use Rattle.read_list.proofs.Counted.{list_refused, list_run}
use Rattle.read_list.proofs.line_info_list.Goals as goal

pub returns-in_err-value : goal.returns-in_err-value
returns-in_err-value c =
    let p = err_from_is_err_and c.from_residual.result c.from_residual.ensures.1 in
    rw (p.1, p.2) (let a = c.args in let both = list_refused (line_info_list a.s.now a.cursor.at) (c.tally_varint.ensures.value, c.tally_varint.ensures.adds) c.in_err-value.was in record { value = both.0; adds = both.1 })

pub returns : goal.returns
returns c = let a = c.args in let both = list_run (line_info_list a.s.now a.cursor.at) (c.tally_varint.ensures.value, c.tally_varint.ensures.adds) c.in_ok-value.was c.read_exact.ensures c.listed.ensures in record { value = both.0; adds = both.1 }
