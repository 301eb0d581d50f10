-- `read_entry::pass::pass_tagged` meets its contract: by the tag, and what was passed over behind it (`Passes.antt`). Assumes nothing.
use mathlib.Core.Path.{refl}
use mathlib.Core.Logic.{inl, inr, ⊎_elim}
use mathlib.Core.List.{[]}
use borrow.Author.Tests.{ne_eqb}
use lib.ListN.{drop}
use Rattle.format.specs.Reading.{integer, float, short_string, long_string}
use Rattle.format.specs.ReadFields.{field}
use Rattle.format.specs.ReadChunk.{always}
use Rattle.format_spelling.proofs.Tallies.{adds_none, adds-not}
use Rattle.read_entry.proofs.Passes.{passes_value}
use Rattle.read_entry.proofs.Filled.{passes_filled}
use Rattle.read_entry.proofs.pass.pass_tagged.Goals as goal

pub returns-in-0 : goal.returns-in-0
returns-in-0 c = rw c.in-0.is (record { value = refl; adds = adds_none })

pub returns-in-1 : goal.returns-in-1
returns-in-1 c = rw c.in-1.is (record { value = refl; adds = adds_none })

pub returns-in-17 : goal.returns-in-17
returns-in-17 c = rw c.in-17.is (record { value = refl; adds = adds_none })

pub returns-in-3 : goal.returns-in-3
returns-in-3 c = let a = c.args in
    let eight = field 8 a.cursor.at (drop a.cursor.at a.s.now) in ⊎_elim (λ e. rw e (let both = passes_value (λ n _. integer n) eight (c.pass_eight.ensures, adds_none) in record { value = both.0; adds = both.1 })) (λ e. rw e (let both = passes_value (λ n _. float n) eight (c.pass_eight.ensures, adds_none) in record { value = both.0; adds = both.1 })) c.in-3.is

pub returns-in-4 : goal.returns-in-4
returns-in-4 c = let a = c.args in
    let filled = always a.max_string_bytes [] a.cursor.at (drop a.cursor.at a.s.now) in
    let passed = passes_filled a.max_string_bytes [] a.cursor.at (drop a.cursor.at a.s.now) (c.pass_filled.ensures.value, c.pass_filled.ensures.adds) in ⊎_elim (λ e. rw e (let both = passes_value (λ t _. short_string t) filled passed in record { value = both.0; adds = both.1 })) (λ e. rw e (let both = passes_value (λ t _. long_string t) filled passed in record { value = both.0; adds = both.1 })) c.in-4.is

pub returns-in_default : goal.returns-in_default
returns-in_default c = let n = c.in_default.in_default-own.rest in rw (ne_eqb _ 0 n.0.0.0.0.1, ne_eqb _ 1 n.0.0.0.1, ne_eqb _ 17 n.0.0.1, ne_eqb _ 3 (λ e. n.0.1 (inl e)), ne_eqb _ 19 (λ e. n.0.1 (inr e)), ne_eqb _ 4 (λ e. n.1 (inl e)), ne_eqb _ 20 (λ e. n.1 (inr e))) (record { value = refl; adds = adds-not refl })
