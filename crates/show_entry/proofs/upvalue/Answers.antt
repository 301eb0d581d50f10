-- `show_entry::upvalue` meets its contract: the entry is read where its list stands (`Found.antt` of show_row). Assumes nothing.
use Rattle.std.proofs.lemmas.Result.{err_from_is_err_and}
use mathlib.Core.Path.{refl, sym, ◌∙◌, ap}
use lib.ListN.{length}
use Rattle.format.specs.ReadChunk.{upvalue}
use Rattle.read_nth.specs.Shown as entries
use Rattle.read_nth.specs.Inner.Nth.{entry_at}
use Rattle.read_nth.proofs.Items.{many_nth}
use Rattle.show_row.specs.declared.place.EntryKind.TheVariants as kind
use Rattle.show_entry.specs.Entries.{shown_upvalue}
use Rattle.show_entry.proofs.Values.{value_as}
use Rattle.show_row.proofs.Found.{entry_refused, entry_shown}
use Rattle.show_entry.proofs.upvalue.Goals as goal

pub returns-in_err-list : goal.returns-in_err-list
returns-in_err-list c =
    let a = c.args in
    let p = err_from_is_err_and c.from_residual.result c.from_residual.ensures.1 in
    rw (p.1, p.2)
    (sym (ap shown_upvalue (entry_refused a.limits a.s.now a.function a.entry kind.Upvalue (λ p. p.upvalues)
    (λ p. p.places.upvalues) (λ p. refl) _ (sym c.in_err-list.was ∙ c.entry_list.ensures))))

pub returns-in_err-upvalue : goal.returns-in_err-upvalue
returns-in_err-upvalue c =
    let a = c.args in
    let p = err_from_is_err_and c.from_residual-in_err-upvalue.result c.from_residual-in_err-upvalue.ensures.1 in
    rw (p.1, p.2)
    (ap (value_as (λ u. u)) (sym c.in_err-upvalue.was ∙ c.nth_upvalue.ensures)
    ∙ entry_shown a.limits a.s.now a.function a.entry kind.Upvalue (λ p. p.upvalues)
    (λ p. p.places.upvalues) (λ p. refl) (entry_at a.entry upvalue)
    (λ p l x e. many_nth upvalue (length p.upvalues) l.upvalues a.entry e)
    (λ o. value_as (λ u. u) (entries.upvalue_result o)) shown_upvalue (λ x to rest. refl) _ (sym c.in_ok-list.was ∙ c.entry_list.ensures))

pub returns : goal.returns
returns c =
    let a = c.args in
    ap (value_as (λ u. u)) (sym c.in_ok-upvalue.was ∙ c.nth_upvalue.ensures)
    ∙ entry_shown a.limits a.s.now a.function a.entry kind.Upvalue (λ p. p.upvalues)
    (λ p. p.places.upvalues) (λ p. refl) (entry_at a.entry upvalue)
    (λ p l x e. many_nth upvalue (length p.upvalues) l.upvalues a.entry e)
    (λ o. value_as (λ u. u) (entries.upvalue_result o)) shown_upvalue (λ x to rest. refl) _ (sym c.in_ok-list.was ∙ c.entry_list.ensures)
