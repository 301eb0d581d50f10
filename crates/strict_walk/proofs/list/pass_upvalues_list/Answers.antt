-- `strict_walk::list::pass_upvalues_list` meets its contract: an int within the limit, and as many upvalues (`Lists.antt`). Assumes nothing.
use mathlib.Core.Path.{sym, ◌∙◌, ap}
use lib.ListN.{drop}
use Rattle.slice.specs.Inner.Results.{cursor_result}
use Rattle.format.specs.declared.refusal.Refusal.TheVariants.{Upvalues}
use Rattle.format.specs.Read.{many}
use Rattle.format.specs.ReadChunk.{upvalue}
use Rattle.strict_walk.proofs.Lists.{count_passes, up_to, exact_int_up_to}
use Rattle.strict_walk.proofs.list.pass_upvalues_list.Goals as goal

pub returns : goal.returns
returns c =
    let a = c.args in
    count_passes (exact_int_up_to a.max_upvalues (Upvalues a.cursor.at)) (λ n. many n upvalue) a.s.now a.cursor.at c.int_up_to.ensures c.in_ok-value.was c.skip_upvalues.ensures
    ∙ sym (ap cursor_result (up_to a.max_upvalues Upvalues upvalue a.cursor.at (drop a.cursor.at a.s.now)))
