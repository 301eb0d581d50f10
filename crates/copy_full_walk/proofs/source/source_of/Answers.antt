-- `copy_full_walk::source::source_of` meets its contract: by what is spelt at the place (`Sources.antt`). Assumes nothing.
use mathlib.Core.Path.{sym, ◌∙◌}
use Rattle.read_walk.specs.Inner.Source.{source_at, unpadded_at}
use Rattle.copy_full_walk.proofs.Sources.{absent, spelt}
use Rattle.copy_full_walk.proofs.source.source_of.Goals as goal

pub returns-in-None : goal.returns-in-None
returns-in-None c =
    let a = c.args in
    absent (unpadded_at a.s.now a.at) a.parent (source_at a.max_string_bytes a.s.now a.at) (source_at a.max_string_bytes a.s.now a.parent) (sym c.in-None.is ∙ c.source_at-name.ensures)

pub returns-in-Some : goal.returns-in-Some
returns-in-Some c =
    let a = c.args in
    rw c.unpadded.ensures
    (spelt (unpadded_at a.s.now a.at) a.parent (source_at a.max_string_bytes a.s.now a.at) (source_at a.max_string_bytes a.s.now a.parent) (sym c.in-Some.is ∙ c.source_at-name.ensures) c.repeats-same.ensures)
