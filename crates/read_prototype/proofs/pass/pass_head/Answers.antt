-- `read_prototype::pass::pass_head` meets its contract: what `read_head` shows, of the counts (`Counts.antt`), and what it adds. Assumes nothing.
use Rattle.std.proofs.lemmas.Result.{err_from_is_err_and}
use mathlib.Core.Path.{sym, ◌∙◌}
use borrow.Author.Rules.{rules}
use lib.ListN.{drop}
use Rattle.read_prototype.specs.Parts.{head}
use Rattle.read_prototype.proofs.Counts.{head-stopped, head_passed_lem}
use Rattle.read_prototype.proofs.pass.pass_head.Goals as goal

pub read_head-requires : goal.read_head-requires
read_head-requires c = c.requires

pub returns-in_err-head : goal.returns-in_err-head
returns-in_err-head c =
    let p = err_from_is_err_and c.from_residual.result c.from_residual.ensures.1 in
    rw (p.1, p.2) (let a = c.args in record { value = head-stopped (head a.limits a.before a.cursor.at (drop a.cursor.at a.s.now)) _ (sym c.in_err-head.was ∙ c.read_head.ensures.value); adds = c.read_head.ensures.adds })

pub returns : goal.returns
returns c =
    let a = c.args in record { value = rw c.is_some.ensures (head_passed_lem (head a.limits a.before a.cursor.at (drop a.cursor.at a.s.now)) c.in_ok-head.head c.in_ok-head.next (sym c.in_ok-head.was ∙ c.read_head.ensures.value)); adds = c.read_head.ensures.adds }
