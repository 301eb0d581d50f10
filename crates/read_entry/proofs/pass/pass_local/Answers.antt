-- `read_entry::pass::pass_local` meets its contract: a name, and two numbers behind it (`Passes.antt`, `Filled.antt`). Assumes nothing.
use Rattle.std.proofs.lemmas.Result.{err_from_is_err_and}
use mathlib.Core.Path.{sym, ◌∙◌}
use lib.ListN.{drop}
use Rattle.read_entry.proofs.Passes.{passes_room, covers_one, two_stop, two-on}
use Rattle.read_entry.proofs.Filled.{covers_filled, name_stop, name-on}
use Rattle.read_entry.proofs.pass.pass_local.Goals as goal

pub pass_number-requires : goal.pass_number-requires
pass_number-requires c =
    passes_room (covers_filled c.args.max_string_bytes) c.args.cursor.at (drop c.args.cursor.at c.args.s.now) c.requires (sym c.in_ok-behind.was ∙ c.pass_filled.ensures.value, c.pass_filled.ensures.adds)

pub pass_number-requires-2 : goal.pass_number-requires-2
pass_number-requires-2 c = let a = c.args in
    let at = c.in_ok-behind.behind.at in
    passes_room covers_one at (drop at a.s.now) (passes_room (covers_filled a.max_string_bytes) a.cursor.at (drop a.cursor.at a.s.now) c.requires (sym c.in_ok-behind.was ∙ c.pass_filled.ensures.value, c.pass_filled.ensures.adds)) (sym c.in_ok-next.was ∙ c.pass_number.ensures.value, c.pass_number.ensures.adds)

pub returns-in_err-behind : goal.returns-in_err-behind
returns-in_err-behind c =
    let p = err_from_is_err_and c.from_residual.result c.from_residual.ensures.1 in
    rw (p.1, p.2) (let a = c.args in let both = name_stop a.max_string_bytes a.s.now a.cursor.at (sym c.in_err-behind.was ∙ c.pass_filled.ensures.value) in record { value = both.0; adds = both.1 })

pub returns-in_err-next : goal.returns-in_err-next
returns-in_err-next c =
    let p = err_from_is_err_and c.from_residual-in_err-next.result c.from_residual-in_err-next.ensures.1 in
    rw (p.1, p.2) (let a = c.args in let both = name-on a.max_string_bytes a.s.now a.cursor.at (sym c.in_ok-behind.was ∙ c.pass_filled.ensures.value, c.pass_filled.ensures.adds)
    (λ t. two_stop (λ startpc endpc. record { name = t; startpc = startpc; endpc = endpc }) a.s.now c.in_ok-behind.behind.at (sym c.in_err-next.was ∙ c.pass_number.ensures.value)) in record { value = both.0; adds = both.1 })

pub returns : goal.returns
returns c = let a = c.args in let both = name-on a.max_string_bytes a.s.now a.cursor.at (sym c.in_ok-behind.was ∙ c.pass_filled.ensures.value, c.pass_filled.ensures.adds)
    (λ t. two-on (λ startpc endpc. record { name = t; startpc = startpc; endpc = endpc }) a.s.now c.in_ok-behind.behind.at (sym c.in_ok-next.was ∙ c.pass_number.ensures.value, c.pass_number.ensures.adds) (c.pass_number-2.ensures.value, c.pass_number-2.ensures.adds)) in record { value = both.0; adds = both.1 }
