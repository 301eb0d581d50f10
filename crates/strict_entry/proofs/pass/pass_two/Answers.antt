-- `strict_entry::pass::pass_two` meets its contract: one int behind another (`Chains.antt`). Assumes nothing.
use mathlib.Core.Path.{sym, ◌∙◌}
use lib.ListN.{drop}
use Rattle.format.specs.Read.{◌>>=◌, give}
use Rattle.format_strict.specs.ReadStrict.{int}
use Rattle.format_strict.proofs.ExactStrict.{exact_int}
use Rattle.strict_entry.proofs.Chains.{passes}
use Rattle.strict_entry.proofs.Entries.{anchor_of, two}
use Rattle.strict_entry.proofs.pass.pass_two.Goals as goal

pub returns : goal.returns
returns c =
    let a = c.args in
    let n = c.in_ok-next.next.at in
    passes int (λ pc. int >>= λ line. give (anchor_of pc line)) a.s.now a.cursor.at c.pass_int.ensures exact_int c.in_ok-next.was (λ pc. c.pass_int-2.ensures ∙ sym (two pc n (drop n a.s.now)))
