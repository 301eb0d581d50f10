-- `show_entry::anchor` meets its contract: the entry is read where its list stands (`Found.antt` of show_row). Assumes nothing.
use Rattle.std.proofs.lemmas.Result.{err_from_is_err_and}
use mathlib.Core.Path.{refl, sym, ◌∙◌, ap}
use lib.ListN.{length}
use Rattle.format.specs.ReadChunk.{anchor}
use Rattle.read_entry.specs.Shown as lists
use Rattle.read_nth.specs.Inner.Nth.{entry_at}
use Rattle.read_nth.proofs.Items.{many_nth}
use Rattle.show_row.specs.declared.place.EntryKind.TheVariants as kind
use Rattle.show_entry.specs.Entries.{shown_anchor}
use Rattle.show_entry.proofs.Values.{value_as}
use Rattle.show_row.proofs.Found.{entry_refused, entry_shown}
use Rattle.show_entry.proofs.anchor.Goals as goal

pub returns-in_err-list : goal.returns-in_err-list
returns-in_err-list c =
    let a = c.args in
    let p = err_from_is_err_and c.from_residual.result c.from_residual.ensures.1 in
    rw (p.1, p.2)
    (sym (ap shown_anchor (entry_refused a.limits a.s.now a.function a.entry kind.Anchor (λ p. p.abs_line_info)
    (λ p. p.places.abs_line_info) (λ p. refl) _ (sym c.in_err-list.was ∙ c.entry_list.ensures))))

pub returns-in_err-anchor : goal.returns-in_err-anchor
returns-in_err-anchor c =
    let a = c.args in
    let p = err_from_is_err_and c.from_residual-in_err-anchor.result c.from_residual-in_err-anchor.ensures.1 in
    rw (p.1, p.2)
    (ap (value_as (λ a. a)) (sym c.in_err-anchor.was ∙ c.nth_anchor.ensures)
    ∙ entry_shown a.limits a.s.now a.function a.entry kind.Anchor (λ p. p.abs_line_info)
    (λ p. p.places.abs_line_info) (λ p. refl) (entry_at a.entry anchor)
    (λ p l x e. many_nth anchor (length p.abs_line_info) l.abs_line_info a.entry e)
    (λ o. value_as (λ a. a) (lists.anchor_result o)) shown_anchor (λ x to rest. refl) _ (sym c.in_ok-list.was ∙ c.entry_list.ensures))

pub returns : goal.returns
returns c =
    let a = c.args in
    ap (value_as (λ a. a)) (sym c.in_ok-anchor.was ∙ c.nth_anchor.ensures)
    ∙ entry_shown a.limits a.s.now a.function a.entry kind.Anchor (λ p. p.abs_line_info)
    (λ p. p.places.abs_line_info) (λ p. refl) (entry_at a.entry anchor)
    (λ p l x e. many_nth anchor (length p.abs_line_info) l.abs_line_info a.entry e)
    (λ o. value_as (λ a. a) (lists.anchor_result o)) shown_anchor (λ x to rest. refl) _ (sym c.in_ok-list.was ∙ c.entry_list.ensures)
