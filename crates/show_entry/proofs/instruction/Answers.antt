-- `show_entry::instruction` meets its contract: the entry is read where its list stands (`Found.antt` of show_row). Assumes nothing.
use Rattle.std.proofs.lemmas.Result.{err_from_is_err_and}
use mathlib.Core.Path.{refl, sym, ◌∙◌, ap}
use lib.ListN.{length}
use Rattle.format.specs.ReadFields.{field}
use Rattle.read_field.specs.Shown.{shown}
use Rattle.read_nth.specs.Inner.Nth.{entry_at}
use Rattle.read_nth.proofs.Items.{many_nth}
use Rattle.show_row.specs.declared.place.EntryKind.TheVariants as kind
use Rattle.show_entry.specs.Entries.{shown_word}
use Rattle.show_entry.proofs.Values.{value_as}
use Rattle.show_row.proofs.Found.{entry_refused, entry_shown}
use Rattle.show_entry.proofs.instruction.Goals as goal

pub returns-in_err-list : goal.returns-in_err-list
returns-in_err-list c =
    let a = c.args in
    let p = err_from_is_err_and c.from_residual.result c.from_residual.ensures.1 in
    rw (p.1, p.2)
    (sym (ap shown_word (entry_refused a.limits a.s.now a.function a.entry kind.Instruction (λ p. p.instructions)
    (λ p. p.places.instructions) (λ p. refl) _ (sym c.in_err-list.was ∙ c.entry_list.ensures))))

pub returns-in_err-word : goal.returns-in_err-word
returns-in_err-word c =
    let a = c.args in
    let p = err_from_is_err_and c.from_residual-in_err-word.result c.from_residual-in_err-word.ensures.1 in
    rw (p.1, p.2)
    (ap (value_as (λ w. w)) (sym c.in_err-word.was ∙ c.nth_word.ensures)
    ∙ entry_shown a.limits a.s.now a.function a.entry kind.Instruction (λ p. p.instructions)
    (λ p. p.places.instructions) (λ p. refl) (entry_at a.entry (field 4))
    (λ p l x e. many_nth (field 4) (length p.instructions) l.instructions a.entry e)
    (λ o. value_as (λ w. w) (shown o)) shown_word (λ x to rest. refl) _ (sym c.in_ok-list.was ∙ c.entry_list.ensures))

pub returns : goal.returns
returns c =
    let a = c.args in
    ap (value_as (λ w. w)) (sym c.in_ok-word.was ∙ c.nth_word.ensures)
    ∙ entry_shown a.limits a.s.now a.function a.entry kind.Instruction (λ p. p.instructions)
    (λ p. p.places.instructions) (λ p. refl) (entry_at a.entry (field 4))
    (λ p l x e. many_nth (field 4) (length p.instructions) l.instructions a.entry e)
    (λ o. value_as (λ w. w) (shown o)) shown_word (λ x to rest. refl) _ (sym c.in_ok-list.was ∙ c.entry_list.ensures)
