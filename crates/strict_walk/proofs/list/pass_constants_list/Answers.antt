-- `strict_walk::list::pass_constants_list` meets its contract: an int within the limit, and as many constants (`Lists.antt`). Assumes nothing.
use mathlib.Core.Path.{sym, ◌∙◌, ap}
use lib.ListN.{drop}
use Rattle.slice.specs.Inner.Results.{cursor_result}
use Rattle.format.specs.declared.refusal.Refusal.TheVariants.{Constants}
use Rattle.format.specs.Read.{many}
use Rattle.format_strict.specs.ReadStrict.{strict_constant}
use Rattle.strict_walk.proofs.Lists.{count_passes, up_to, exact_int_up_to}
use Rattle.strict_walk.proofs.list.pass_constants_list.Goals as goal

pub returns : goal.returns
returns c =
    let a = c.args in
    count_passes (exact_int_up_to a.max_constants (Constants a.cursor.at)) (λ n. many n (strict_constant a.max_string_bytes)) a.s.now a.cursor.at c.int_up_to.ensures c.in_ok-value.was c.pass_constants.ensures
    ∙ sym (ap cursor_result (up_to a.max_constants Constants (strict_constant a.max_string_bytes) a.cursor.at (drop a.cursor.at a.s.now)))
