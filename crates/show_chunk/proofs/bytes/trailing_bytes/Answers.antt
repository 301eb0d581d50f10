-- `show_chunk::bytes::trailing_bytes` meets its contract: the trailing bytes are the rest of the chunk (`SummaryLaws.antt`). Assumes nothing.
use mathlib.Core.Path.{refl, sym, ◌∙◌}
use lib.ListN.{length, drop_of_length-le}
use native.Mathlib.Omega.{arith}
use Rattle.format.specs.ReadChunk.{read}
use Rattle.show_chunk.proofs.SummaryLaws.{trailing-refused, trailing-shown}
use Rattle.show_chunk.proofs.bytes.trailing_bytes.Goals as goal

pub returns-in-Err : goal.returns-in-Err
returns-in-Err c = let a = c.args in
    c.bytes_from.ensures ∙ drop_of_length-le a.s.now {i = length a.s.now} (omega arith)
    ∙ sym (trailing-refused (read a.limits a.s.now) _ (sym c.in-Err.is ∙ c.judge_chunk-judged.ensures))

pub returns-in-Ok : goal.returns-in-Ok
returns-in-Ok c = let a = c.args in
    c.bytes_from-in-Ok.ensures ∙ trailing-shown a.limits a.s.now (read a.limits a.s.now) refl _ (sym c.in-Ok.is ∙ c.judge_chunk-judged.ensures)
