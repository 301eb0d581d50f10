-- `read_entry::pass::pass_anchor` meets its contract: two numbers, one behind the other (`Passes.antt`). Assumes nothing.
use Rattle.format.specs.declared.entry.AbsLineInfo.{AbsLineInfo}
use Rattle.std.proofs.lemmas.Result.{err_from_is_err_and}
use mathlib.Core.Path.{sym, ◌∙◌}
use lib.ListN.{drop}
use Rattle.read_entry.proofs.Passes.{passes_room, covers_one, two_stop, two-on}
use Rattle.read_entry.proofs.pass.pass_anchor.Goals as goal

pub pass_number-requires-2 : goal.pass_number-requires-2
pass_number-requires-2 c = passes_room covers_one c.args.cursor.at (drop c.args.cursor.at c.args.s.now) c.requires (sym c.in_ok-next.was ∙ c.pass_number.ensures.value, c.pass_number.ensures.adds)

pub returns-in_err-next : goal.returns-in_err-next
returns-in_err-next c =
    let p = err_from_is_err_and c.from_residual.result c.from_residual.ensures.1 in
    rw (p.1, p.2) (let a = c.args in let both = two_stop {B = AbsLineInfo} (λ pc line. record { pc = pc; line = line }) a.s.now a.cursor.at (sym c.in_err-next.was ∙ c.pass_number.ensures.value) in record { value = both.0; adds = both.1 })

pub returns : goal.returns
returns c = let a = c.args in let both = two-on (λ pc line. record { pc = pc; line = line }) a.s.now a.cursor.at (sym c.in_ok-next.was ∙ c.pass_number.ensures.value, c.pass_number.ensures.adds) (c.pass_number-2.ensures.value, c.pass_number-2.ensures.adds) in record { value = both.0; adds = both.1 }
