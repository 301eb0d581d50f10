-- `show_entry::delta` meets its contract: the entry is read where its list stands (`Found.antt` of show_row). Assumes nothing.
use Rattle.std.proofs.lemmas.Result.{err_from_is_err_and}
use Rattle.std.specs.Prelude.{Ok}
use mathlib.Core.Path.{refl, sym, ◌∙◌, ap}
use lib.ListN.{length}
use mir.Facts.{to_z-of_z}
use Rattle.read_field.specs.Shown.{shown}
use Rattle.read_nth.specs.Inner.Nth.{byte_at}
use Rattle.read_nth.proofs.Items.{run_nth}
use Rattle.show_row.specs.declared.place.EntryKind.TheVariants as kind
use Rattle.show_entry.specs.Entries.{shown_delta}
use Rattle.show_entry.proofs.Values.{value_as}
use Rattle.std.specs.Int.{w8}
use Rattle.std.proofs.Common.{to_z}
use Rattle.show_row.proofs.Found.{entry_refused, entry_shown}
use Rattle.show_entry.proofs.delta.Goals as goal

pub returns-in_err-list : goal.returns-in_err-list
returns-in_err-list c =
    let a = c.args in
    let p = err_from_is_err_and c.from_residual.result c.from_residual.ensures.1 in
    rw (p.1, p.2)
    (sym (ap shown_delta (entry_refused a.limits a.s.now a.function a.entry kind.Delta (λ p. p.line_info_lem)
    (λ p. p.places.line_info_lem) (λ p. refl) _ (sym c.in_err-list.was ∙ c.entry_list.ensures))))

pub returns-in_err-delta : goal.returns-in_err-delta
returns-in_err-delta c =
    let a = c.args in
    let p = err_from_is_err_and c.from_residual-in_err-delta.result c.from_residual-in_err-delta.ensures.1 in
    rw (p.1, p.2)
    (ap (value_as (to_z w8)) (sym c.in_err-delta.was ∙ c.nth_delta.ensures)
    ∙ entry_shown a.limits a.s.now a.function a.entry kind.Delta (λ p. p.line_info_lem)
    (λ p. p.places.line_info_lem) (λ p. refl) (byte_at a.entry)
    (λ p l x e. run_nth (length p.line_info_lem) l.line_info_lem a.entry e)
    (λ o. value_as (to_z w8) (shown o)) shown_delta (λ x to rest. refl) _ (sym c.in_ok-list.was ∙ c.entry_list.ensures))

pub returns : goal.returns
returns c =
    let a = c.args in
    ap Ok (to_z-of_z {w = w8} (record { sfits = c.signed.type_inv }) ∙ c.signed.ensures)
    ∙ ap (value_as (to_z w8)) (sym c.in_ok-delta.was ∙ c.nth_delta.ensures)
    ∙ entry_shown a.limits a.s.now a.function a.entry kind.Delta (λ p. p.line_info_lem)
    (λ p. p.places.line_info_lem) (λ p. refl) (byte_at a.entry)
    (λ p l x e. run_nth (length p.line_info_lem) l.line_info_lem a.entry e)
    (λ o. value_as (to_z w8) (shown o)) shown_delta (λ x to rest. refl) _ (sym c.in_ok-list.was ∙ c.entry_list.ensures)
