-- `read_list::count_up_to` meets its contract: by whether the count is read and within the limit (`Listing.antt`). Assumes nothing.
use Rattle.std.proofs.lemmas.Result.{err_from_is_err_and}
use native.Mathlib.Omega.{arith}
use borrow.Author.Rules.{rules}
use Rattle.format.proofs.ExactFields.{exact_number}
use Rattle.read_list.proofs.Listing.{held-refused, held_above, held-within}
use Rattle.read_list.proofs.count_up_to.Goals as goal

pub returns-in_err-value : goal.returns-in_err-value
returns-in_err-value c =
    let p = err_from_is_err_and c.from_residual.result c.from_residual.ensures.1 in
    rw (p.1, p.2) (let a = c.args in let both = held-refused exact_number (λ n. n) a.limit a.refusal a.s.now a.cursor.at (c.tally_varint.ensures.value, c.tally_varint.ensures.adds) c.in_err-value.was in record { value = both.0; adds = both.1 })

pub returns-then-limit-value : goal.returns-then-limit-value
returns-then-limit-value c = let a = c.args in let both = held_above exact_number (λ n. n) a.limit a.refusal a.s.now a.cursor.at (c.tally_varint.ensures.value, c.tally_varint.ensures.adds) c.in_ok-value.was (omega arith) in record { value = both.0; adds = both.1 }

pub returns : goal.returns
returns c = let a = c.args in let both = held-within exact_number (λ n. n) a.limit a.refusal a.s.now a.cursor.at (c.tally_varint.ensures.value, c.tally_varint.ensures.adds) c.in_ok-value.was (omega arith) in record { value = both.0; adds = both.1 }
