-- `strict_walk::parts::pass_lists` meets its contract: one list behind the other (strict_entry's `Chains.antt`). Assumes nothing.
use mathlib.Core.Path.{sym, ◌∙◌}
use lib.ListN.{drop}
use Rattle.format.specs.declared.refusal.Refusal.TheVariants.{Constants, Upvalues}
use Rattle.format.specs.ReadChunk.{upvalue}
use Rattle.format_strict.specs.ReadStrict.{strict_counted_up_to, strict_constant}
use Rattle.format_strict.proofs.ExactStrict.{exact_strict_counted_up_to, exact_strict_constant}
use Rattle.strict_entry.proofs.Chains.{passes, value}
use Rattle.strict_walk.proofs.Continued.{behind_constants}
use Rattle.strict_walk.proofs.parts.pass_lists.Goals as goal

pub returns : goal.returns
returns c =
    let a = c.args in
    passes (strict_counted_up_to a.limits.max_constants_per_proto Constants (strict_constant a.limits.max_string_bytes)) (behind_constants a.limits) a.s.now a.cursor.at c.pass_constants_list.ensures (exact_strict_counted_up_to a.limits.max_constants_per_proto Constants (exact_strict_constant a.limits.max_string_bytes)) c.in_ok-next.was (λ constants. c.pass_upvalues_list.ensures ∙ sym (value (strict_counted_up_to a.limits.max_upvalues_per_proto Upvalues upvalue c.in_ok-next.next.at (drop c.in_ok-next.next.at a.s.now)) (λ upvalues. (constants, upvalues))))
