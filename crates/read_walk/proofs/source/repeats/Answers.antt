-- `read_walk::source::repeats` meets its contract: by whether a source is spelt at the first place (`Sources.antt`). Assumes nothing.
use mathlib.Core.Path.{sym, subst, ◌∙◌}
use Rattle.read_walk.specs.Inner.Source.{ParentsOwn, source_at}
use Rattle.read_walk.proofs.Sources.{not-spelt, own_is}
use Rattle.read_walk.proofs.source.repeats.Goals as goal

pub returns-in_default : goal.returns-in_default
returns-in_default c =
    let a = c.args in
    not-spelt (source_at a.max_string_bytes a.s.now a.own) (source_at a.max_string_bytes a.s.now a.parent) (sym c.in_default.is ∙ c.source_at-source.ensures)

pub returns : goal.returns
returns c =
    let a = c.args in
    own_is a.max_string_bytes a.s.now a.own a.parent (sym c.in-Some.is ∙ c.source_at-source.ensures) (subst (λ o. ParentsOwn a.s.now c.in-Some.spelt o c.parents_own.result) c.source_at-outer.ensures c.parents_own.ensures)
