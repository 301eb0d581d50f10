-- `read_walk::source::source_at` meets its contract: by what was read at the place (`Sources.antt`). Assumes nothing.
use mathlib.Core.Path.{sym, ◌∙◌}
use lib.ListN.{drop}
use Rattle.format.specs.ReadFields.{string}
use Rattle.read_walk.proofs.Sources.{none_read, some_read}
use Rattle.read_walk.proofs.source.source_at.Goals as goal

pub returns-in-Err : goal.returns-in-Err
returns-in-Err c =
    let a = c.args in
    none_read (string a.max_string_bytes a.at (drop a.at a.s.now)) (sym c.in-Err.is ∙ c.read_string_lua54-name.ensures)

pub returns-in-Ok : goal.returns-in-Ok
returns-in-Ok c =
    let a = c.args in
    some_read (string a.max_string_bytes a.at (drop a.at a.s.now)) (sym c.in-Ok.is ∙ c.read_string_lua54-name.ensures)
