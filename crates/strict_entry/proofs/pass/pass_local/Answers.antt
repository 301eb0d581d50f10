-- `strict_entry::pass::pass_local` meets its contract: two ints behind a string (`Chains.antt`, `Entries.antt`). Assumes nothing.
use mathlib.Core.Path.{sym, ◌∙◌}
use lib.ListN.{drop}
use Rattle.format.specs.ReadFields.{string}
use Rattle.format.proofs.ExactFields.{exact_string}
use Rattle.format_strict.specs.ReadStrict.{strict_anchor}
use Rattle.strict_entry.proofs.Chains.{passes}
use Rattle.strict_entry.proofs.Entries.{named}
use Rattle.strict_entry.proofs.pass.pass_local.Goals as goal

pub returns : goal.returns
returns c =
    let a = c.args in
    passes (string a.max_string_bytes) (λ _. strict_anchor) a.s.now a.cursor.at c.pass_string.ensures (exact_string a.max_string_bytes) c.in_ok-next.was (λ _. c.pass_two.ensures)
    ∙ sym (named a.max_string_bytes a.cursor.at (drop a.cursor.at a.s.now))
