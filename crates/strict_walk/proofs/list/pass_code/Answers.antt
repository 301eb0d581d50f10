-- `strict_walk::list::pass_code` meets its contract: a count that is held to two limits, and as many words (`Lists.antt`). Assumes nothing.
use Rattle.std.proofs.lemmas.Result.{err_from_is_err_and}
use mathlib.Core.Path.{sym, ◌∙◌, ap}
use lib.ListN.{drop}
use Rattle.format.specs.Read.{many}
use Rattle.format.specs.ReadFields.{field}
use Rattle.format.proofs.ExactFields.{exact_field}
use Rattle.read_list.specs.Inner.Shown.{listed_of}
use Rattle.read_list.proofs.Listing.{many_sized}
use Rattle.strict_walk.specs.Inner.Results.{length_result}
use Rattle.strict_walk.proofs.Lists.{exact_code_count, length-read, length_of, code_is}
use Rattle.strict_walk.proofs.list.pass_code.Goals as goal

pub returns-in_err-behind : goal.returns-in_err-behind
returns-in_err-behind c =
    let p = err_from_is_err_and c.from_residual-in_err-behind.result c.from_residual-in_err-behind.ensures.1 in
    rw (p.1, p.2) (let a = c.args in
    ap (λ x. length_of (listed_of x c.in_ok-value.value c.in_ok-value.next.at)) (sym c.in_err-behind.was)
    ∙ length-read (exact_code_count a.max_instructions_per_proto a.instructions_before a.max_total_instructions a.cursor.at) (λ n. many n (field 4)) (many_sized (exact_field 4)) a.s.now a.cursor.at c.instruction_count.ensures c.in_ok-value.was c.skip_words.ensures
    ∙ sym (ap length_result (code_is a.max_instructions_per_proto a.instructions_before a.max_total_instructions a.cursor.at (drop a.cursor.at a.s.now))))

pub returns : goal.returns
returns c =
    let a = c.args in
    ap (λ x. length_of (listed_of x c.in_ok-value.value c.in_ok-value.next.at)) (sym c.in_ok-behind.was)
    ∙ length-read (exact_code_count a.max_instructions_per_proto a.instructions_before a.max_total_instructions a.cursor.at) (λ n. many n (field 4)) (many_sized (exact_field 4)) a.s.now a.cursor.at c.instruction_count.ensures c.in_ok-value.was c.skip_words.ensures
    ∙ sym (ap length_result (code_is a.max_instructions_per_proto a.instructions_before a.max_total_instructions a.cursor.at (drop a.cursor.at a.s.now)))
