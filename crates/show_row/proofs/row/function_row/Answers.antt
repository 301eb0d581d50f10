-- `show_row::row::function_row` meets its contract: by the row that the walk brought back (`RowLaws.antt`). Assumes nothing.
use mathlib.Core.Path.{sym, ◌∙◌}
use Rattle.format.specs.ReadChunk.{read}
use Rattle.show_row.proofs.RowLaws.{row_shown}
use Rattle.show_row.proofs.row.function_row.Goals as goal

pub returns : goal.returns
returns c =
    let a = c.args in
    c.ok_or.ensures.value ∙ row_shown a.function (read a.limits a.s.now) _ (sym c.in_ok-chunk.was ∙ c.decode_chunk_lua54.ensures)
