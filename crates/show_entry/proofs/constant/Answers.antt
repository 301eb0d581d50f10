-- `show_entry::constant` meets its contract: the entry is read where its list stands (`Found.antt` of show_row). Assumes nothing.
use Rattle.std.proofs.lemmas.Result.{err_from_is_err_and}
use mathlib.Core.Path.{refl, sym, ◌∙◌, ap}
use lib.ListN.{length}
use Rattle.format.specs.ReadChunk.{constant}
use Rattle.read_entry.specs.Shown as lists
use Rattle.read_nth.specs.Inner.Nth.{entry_at}
use Rattle.read_nth.proofs.Items.{many_nth}
use Rattle.show_row.specs.declared.place.EntryKind.TheVariants as kind
use Rattle.show_entry.specs.Entries.{shown_constant}
use Rattle.show_entry.proofs.Values.{value_as}
use Rattle.show_row.proofs.Found.{entry_refused, entry_shown}
use Rattle.show_entry.proofs.constant.Goals as goal

pub returns-in_err-list : goal.returns-in_err-list
returns-in_err-list c =
    let a = c.args in
    let p = err_from_is_err_and c.from_residual.result c.from_residual.ensures.1 in
    rw (p.1, p.2)
    (sym (ap shown_constant (entry_refused a.limits a.s.now a.function a.entry kind.Constant (λ p. p.constants)
    (λ p. p.places.constants) (λ p. refl) _ (sym c.in_err-list.was ∙ c.entry_list.ensures))))

pub returns-in_err-constant : goal.returns-in_err-constant
returns-in_err-constant c =
    let a = c.args in
    let p = err_from_is_err_and c.from_residual-in_err-constant.result c.from_residual-in_err-constant.ensures.1 in
    rw (p.1, p.2)
    (ap (value_as (λ k. k)) (sym c.in_err-constant.was ∙ c.nth_constant.ensures)
    ∙ entry_shown a.limits a.s.now a.function a.entry kind.Constant (λ p. p.constants)
    (λ p. p.places.constants) (λ p. refl) (entry_at a.entry (constant a.limits.max_string_bytes))
    (λ p l x e. many_nth (constant a.limits.max_string_bytes) (length p.constants) l.constants a.entry e)
    (λ o. value_as (λ k. k) (lists.constant_result o)) shown_constant (λ x to rest. refl) _ (sym c.in_ok-list.was ∙ c.entry_list.ensures))

pub returns : goal.returns
returns c =
    let a = c.args in
    ap (value_as (λ k. k)) (sym c.in_ok-constant.was ∙ c.nth_constant.ensures)
    ∙ entry_shown a.limits a.s.now a.function a.entry kind.Constant (λ p. p.constants)
    (λ p. p.places.constants) (λ p. refl) (entry_at a.entry (constant a.limits.max_string_bytes))
    (λ p l x e. many_nth (constant a.limits.max_string_bytes) (length p.constants) l.constants a.entry e)
    (λ o. value_as (λ k. k) (lists.constant_result o)) shown_constant (λ x to rest. refl) _ (sym c.in_ok-list.was ∙ c.entry_list.ensures)
