-- `strict_entry::pass::pass_tagged` meets its contract: by the tag (`Entries.antt`). Assumes nothing.
use mathlib.Core.Path.{sym, ◌∙◌}
use mathlib.Core.Logic.{inl, inr, ⊎_elim}
use borrow.Author.Tests.{ne_eqb}
use lib.ListN.{drop}
use Rattle.format.specs.Reading.{integer, float, short_string, long_string}
use Rattle.format_strict.specs.ReadStrict.{present}
use Rattle.strict_entry.proofs.Chains.{value}
use Rattle.strict_entry.proofs.Entries.{eight}
use Rattle.strict_entry.proofs.pass.pass_tagged.Goals as goal

pub returns-in-0 : goal.returns-in-0
returns-in-0 c = rw c.in-0.is

pub returns-in-1 : goal.returns-in-1
returns-in-1 c = rw c.in-1.is

pub returns-in-17 : goal.returns-in-17
returns-in-17 c = rw c.in-17.is

pub returns-in-3 : goal.returns-in-3
returns-in-3 c =
    let a = c.args in
    let bytes = drop a.cursor.at a.s.now in
    ⊎_elim
    (λ e. rw e (c.read_exact.ensures ∙ eight integer a.cursor.at bytes))
    (λ e. rw e (c.read_exact.ensures ∙ eight float a.cursor.at bytes))
    c.in-3.is

pub returns-in-4 : goal.returns-in-4
returns-in-4 c =
    let a = c.args in
    let there = present a.max_string_bytes a.cursor.at (drop a.cursor.at a.s.now) in
    ⊎_elim
    (λ e. rw e (c.pass_present.ensures ∙ sym (value there short_string)))
    (λ e. rw e (c.pass_present.ensures ∙ sym (value there long_string)))
    c.in-4.is

pub returns-in_default : goal.returns-in_default
returns-in_default c =
    let n = c.in_default.in_default-own.rest in
    rw (ne_eqb _ 0 n.0.0.0.0.1, ne_eqb _ 1 n.0.0.0.1, ne_eqb _ 17 n.0.0.1, ne_eqb _ 3 (λ e. n.0.1 (inl e)), ne_eqb _ 19 (λ e. n.0.1 (inr e)), ne_eqb _ 4 (λ e. n.1 (inl e)), ne_eqb _ 20 (λ e. n.1 (inr e)))
