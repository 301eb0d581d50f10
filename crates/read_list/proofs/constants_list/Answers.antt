-- `read_list::constants_list` meets its contract: by whether the count is read (`Counted.antt`). Assumes nothing.
use Rattle.std.proofs.lemmas.Result.{err_from_is_err_and}
use borrow.Author.Rules.{rules}
use Rattle.format.specs.declared.refusal.Refusal.TheVariants.{Constants}
use Rattle.format.proofs.ExactChunk.{exact_constant}
use Rattle.format_spelling.specs.ReadSpelling as count
use Rattle.read_list.proofs.Listing.{up_to_list}
use Rattle.read_list.proofs.Counted.{list_refused, list_room, list_all, list_none}
use Rattle.read_list.proofs.constants_list.Goals as goal

pub returns-then-count-eq0 : goal.returns-then-count-eq0
returns-then-count-eq0 c = let a = c.args in let both = list_none (up_to_list (exact_constant a.max_string_bytes) a.s.now a.cursor.at a.max_constants Constants) (count.constant a.max_string_bytes) (c.count_up_to.ensures.value, c.count_up_to.ensures.adds) c.in_ok-value.was c.if-count-eq0.true c.listed.ensures in record { value = both.0; adds = both.1 }

pub pass_constants-requires : goal.pass_constants-requires
pass_constants-requires c = let a = c.args in list_room (up_to_list (exact_constant a.max_string_bytes) a.s.now a.cursor.at a.max_constants Constants) (c.count_up_to.ensures.value, c.count_up_to.ensures.adds) c.in_ok-value.was c.requires

pub returns-in_err-value : goal.returns-in_err-value
returns-in_err-value c =
    let p = err_from_is_err_and c.from_residual.result c.from_residual.ensures.1 in
    rw (p.1, p.2) (let a = c.args in let both = list_refused (up_to_list (exact_constant a.max_string_bytes) a.s.now a.cursor.at a.max_constants Constants) (c.count_up_to.ensures.value, c.count_up_to.ensures.adds) c.in_err-value.was in record { value = both.0; adds = both.1 })

pub returns : goal.returns
returns c = let a = c.args in let both = list_all (up_to_list (exact_constant a.max_string_bytes) a.s.now a.cursor.at a.max_constants Constants) (count.constant a.max_string_bytes) (c.count_up_to.ensures.value, c.count_up_to.ensures.adds) c.in_ok-value.was (c.pass_constants.ensures.value, c.pass_constants.ensures.adds) c.listed-2.ensures in record { value = both.0; adds = both.1 }
