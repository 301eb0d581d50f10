-- `strict_walk::list::instruction_count` meets its contract: by whether the int is read and within the total (`Lists.antt`). Assumes nothing.
use Prim.Native.Nat.{◌+◌}
use native.Mathlib.Omega.{arith}
use Rattle.format.specs.declared.refusal.Refusal.TheVariants.{Instructions, TotalInstructions}
use Rattle.strict_walk.proofs.Lists.{exact_int_up_to, within_above, within_limit}
use Rattle.strict_walk.proofs.list.instruction_count.Goals as goal

pub returns-then-max_total_instructions-instructions_before : goal.returns-then-max_total_instructions-instructions_before
returns-then-max_total_instructions-instructions_before c = let a = c.args in within_above (exact_int_up_to a.max_instructions_per_proto (Instructions a.cursor.at)) (λ n. a.instructions_before + n) a.max_total_instructions (TotalInstructions a.cursor.at) a.s.now a.cursor.at c.int_up_to.ensures c.in_ok-value.was (omega arith)

pub returns-then-max_total_instructions-instructions_before-2 : goal.returns-then-max_total_instructions-instructions_before-2
returns-then-max_total_instructions-instructions_before-2 c = let a = c.args in within_above (exact_int_up_to a.max_instructions_per_proto (Instructions a.cursor.at)) (λ n. a.instructions_before + n) a.max_total_instructions (TotalInstructions a.cursor.at) a.s.now a.cursor.at c.int_up_to.ensures c.in_ok-value.was (omega arith)

pub returns : goal.returns
returns c = let a = c.args in within_limit (exact_int_up_to a.max_instructions_per_proto (Instructions a.cursor.at)) (λ n. a.instructions_before + n) a.max_total_instructions (TotalInstructions a.cursor.at) a.s.now a.cursor.at c.int_up_to.ensures c.in_ok-value.was (omega arith)
