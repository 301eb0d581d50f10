-- `read_prototype::pass::pass_tail` meets its contract: what `read_tail` shows, of the counts (`Counts.antt`), and what it adds. Assumes nothing.
use Rattle.std.proofs.lemmas.Result.{err_from_is_err_and}
use mathlib.Core.Path.{sym, ◌∙◌}
use borrow.Author.Rules.{rules}
use lib.ListN.{drop}
use Rattle.read_prototype.specs.Parts.{tail}
use Rattle.read_prototype.proofs.Counts.{tail-stopped, tail-passed}
use Rattle.read_prototype.proofs.pass.pass_tail.Goals as goal

pub read_tail-requires : goal.read_tail-requires
read_tail-requires c = c.requires

pub returns-in_err-tail : goal.returns-in_err-tail
returns-in_err-tail c =
    let p = err_from_is_err_and c.from_residual.result c.from_residual.ensures.1 in
    rw (p.1, p.2) (let a = c.args in record { value = tail-stopped (tail a.max_string_bytes a.cursor.at (drop a.cursor.at a.s.now)) _ (sym c.in_err-tail.was ∙ c.read_tail.ensures.value); adds = c.read_tail.ensures.adds })

pub returns : goal.returns
returns c =
    let a = c.args in record { value = tail-passed (tail a.max_string_bytes a.cursor.at (drop a.cursor.at a.s.now)) c.in_ok-tail.tail c.in_ok-tail.next (sym c.in_ok-tail.was ∙ c.read_tail.ensures.value); adds = c.read_tail.ensures.adds }
