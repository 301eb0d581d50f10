-- `show_local::local` meets its contract: the variable is read where its list stands, and its name is written (`Names.antt`). Assumes nothing.
use Rattle.std.proofs.lemmas.Result.{err_from_is_err_and}
use mathlib.Core.Path.{sym, ◌∙◌}
use Rattle.show_local.proofs.Names.{local-refused, local-read, name_stands, local-short, local-shown}
use Rattle.show_local.proofs.local.Goals as goal

pub returns-then-name-len : goal.returns-then-name-len
returns-then-name-len c =
    let a = c.args in
    let there = sym c.in_ok-list.was ∙ c.entry_list.ensures in
    let read = sym c.in_ok-found.was ∙ c.nth_local.ensures in
    let short = rw c.name_len-len.ensures at c.if-name-len.true in
    let both = local-short a.limits a.s.now a.function a.entry c.in_ok-list.list there c.in_ok-found.found _ read a.name.now short in
    record { value = both.0; name_after = both.1 }

pub put_name-requires : goal.put_name-requires
put_name-requires c =
    let a = c.args in
    let there = sym c.in_ok-list.was ∙ c.entry_list.ensures in
    let read = sym c.in_ok-found.was ∙ c.nth_local.ensures in
    record {
      stands = name_stands a.limits a.s.now a.function a.entry c.in_ok-list.list there c.in_ok-found.found _ read;
      name_in_bounds = rw c.name_len-len.ensures at c.if-name-len.false;
    }

pub returns-in_err-list : goal.returns-in_err-list
returns-in_err-list c =
    let a = c.args in
    let both = local-refused a.limits a.s.now a.function a.entry a.name.now _ (sym c.in_err-list.was ∙ c.entry_list.ensures) in
    let p = err_from_is_err_and c.from_residual.result c.from_residual.ensures.1 in
    rw (p.1, p.2) (record { value = both.0; name_after = both.1 })

-- it cannot be refused there
pub returns-in_err-found : goal.returns-in_err-found
returns-in_err-found c =
    let a = c.args in
    local-read a.limits a.s.now a.function a.entry c.in_ok-list.list (sym c.in_ok-list.was ∙ c.entry_list.ensures) _
    (sym c.in_err-found.was ∙ c.nth_local.ensures)

pub returns : goal.returns
returns c =
    let a = c.args in
    let there = sym c.in_ok-list.was ∙ c.entry_list.ensures in
    let read = sym c.in_ok-found.was ∙ c.nth_local.ensures in
    let room = rw c.name_len-len.ensures at c.if-name-len.false in
    let both = local-shown a.limits a.s.now a.function a.entry c.in_ok-list.list there c.in_ok-found.found _ read a.name.now c.put_name.new.out room c.put_name.ensures in
    record { value = rw c.name_len-len.ensures both.0; name_after = both.1 }
