-- `show_entry::upvalue_name` meets its contract: the entry is read where its list stands (`Found.antt` of show_row). Assumes nothing.
use Rattle.std.proofs.lemmas.Result.{err_from_is_err_and}
use mathlib.Core.Path.{refl, sym, ◌∙◌, ap}
use lib.ListN.{length}
use Rattle.format.specs.ReadFields.{string}
use Rattle.read_field.specs.Shown.{string_result}
use Rattle.read_nth.specs.Inner.Nth.{entry_at}
use Rattle.read_nth.proofs.Items.{many_nth}
use Rattle.show_row.specs.declared.place.EntryKind.TheVariants as kind
use Rattle.show_entry.specs.Entries.{shown_name}
use Rattle.show_entry.proofs.Values.{value_as}
use Rattle.show_row.proofs.Found.{entry_refused, entry_shown}
use Rattle.show_entry.proofs.upvalue_name.Goals as goal

pub returns-in_err-list : goal.returns-in_err-list
returns-in_err-list c =
    let a = c.args in
    let p = err_from_is_err_and c.from_residual.result c.from_residual.ensures.1 in
    rw (p.1, p.2)
    (sym (ap shown_name (entry_refused a.limits a.s.now a.function a.entry kind.UpvalueName (λ p. p.upvalue_names_lem)
    (λ p. p.places.upvalue_names_lem) (λ p. refl) _ (sym c.in_err-list.was ∙ c.entry_list.ensures))))

pub returns-in_err-name : goal.returns-in_err-name
returns-in_err-name c =
    let a = c.args in
    let p = err_from_is_err_and c.from_residual-in_err-name.result c.from_residual-in_err-name.ensures.1 in
    rw (p.1, p.2)
    (ap (value_as (λ t. t)) (sym c.in_err-name.was ∙ c.nth_name.ensures)
    ∙ entry_shown a.limits a.s.now a.function a.entry kind.UpvalueName (λ p. p.upvalue_names_lem)
    (λ p. p.places.upvalue_names_lem) (λ p. refl) (entry_at a.entry (string a.limits.max_string_bytes))
    (λ p l x e. many_nth (string a.limits.max_string_bytes) (length p.upvalue_names_lem) l.upvalue_names_lem a.entry e)
    (λ o. value_as (λ t. t) (string_result o)) shown_name (λ x to rest. refl) _ (sym c.in_ok-list.was ∙ c.entry_list.ensures))

pub returns : goal.returns
returns c =
    let a = c.args in
    ap (value_as (λ t. t)) (sym c.in_ok-name.was ∙ c.nth_name.ensures)
    ∙ entry_shown a.limits a.s.now a.function a.entry kind.UpvalueName (λ p. p.upvalue_names_lem)
    (λ p. p.places.upvalue_names_lem) (λ p. refl) (entry_at a.entry (string a.limits.max_string_bytes))
    (λ p l x e. many_nth (string a.limits.max_string_bytes) (length p.upvalue_names_lem) l.upvalue_names_lem a.entry e)
    (λ o. value_as (λ t. t) (string_result o)) shown_name (λ x to rest. refl) _ (sym c.in_ok-list.was ∙ c.entry_list.ensures)
