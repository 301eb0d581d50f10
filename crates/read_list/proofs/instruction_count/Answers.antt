-- `read_list::instruction_count` meets its contract: by whether the count is read and within the total (`Listing.antt`). Assumes nothing.
use Rattle.std.proofs.lemmas.Result.{err_from_is_err_and}
use Prim.Native.Nat.{◌+◌}
use native.Mathlib.Omega.{arith}
use borrow.Author.Rules.{rules}
use Rattle.format.specs.declared.refusal.Refusal.TheVariants.{Instructions, TotalInstructions}
use Rattle.read_list.proofs.Listing.{exact_count_up_to, held-refused, held_above, held-within}
use Rattle.read_list.proofs.instruction_count.Goals as goal

pub returns-in_err-value : goal.returns-in_err-value
returns-in_err-value c =
    let p = err_from_is_err_and c.from_residual.result c.from_residual.ensures.1 in
    rw (p.1, p.2) (let a = c.args in let both = held-refused (exact_count_up_to a.max_instructions_per_proto (Instructions a.cursor.at)) (λ n. a.instructions_before + n) a.max_total_instructions (TotalInstructions a.cursor.at) a.s.now a.cursor.at (c.count_up_to.ensures.value, c.count_up_to.ensures.adds) c.in_err-value.was in record { value = both.0; adds = both.1 })

pub returns-then-max_total_instructions-instructions_before : goal.returns-then-max_total_instructions-instructions_before
returns-then-max_total_instructions-instructions_before c = let a = c.args in let both = held_above (exact_count_up_to a.max_instructions_per_proto (Instructions a.cursor.at)) (λ n. a.instructions_before + n) a.max_total_instructions (TotalInstructions a.cursor.at) a.s.now a.cursor.at (c.count_up_to.ensures.value, c.count_up_to.ensures.adds) c.in_ok-value.was (omega arith) in record { value = both.0; adds = both.1 }

pub returns-then-max_total_instructions-instructions_before-2 : goal.returns-then-max_total_instructions-instructions_before-2
returns-then-max_total_instructions-instructions_before-2 c = let a = c.args in let both = held_above (exact_count_up_to a.max_instructions_per_proto (Instructions a.cursor.at)) (λ n. a.instructions_before + n) a.max_total_instructions (TotalInstructions a.cursor.at) a.s.now a.cursor.at (c.count_up_to.ensures.value, c.count_up_to.ensures.adds) c.in_ok-value.was (omega arith) in record { value = both.0; adds = both.1 }

pub returns : goal.returns
returns c = let a = c.args in let both = held-within (exact_count_up_to a.max_instructions_per_proto (Instructions a.cursor.at)) (λ n. a.instructions_before + n) a.max_total_instructions (TotalInstructions a.cursor.at) a.s.now a.cursor.at (c.count_up_to.ensures.value, c.count_up_to.ensures.adds) c.in_ok-value.was (omega arith) in record { value = both.0; adds = both.1 }
