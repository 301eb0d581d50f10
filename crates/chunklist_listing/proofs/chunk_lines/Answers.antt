-- `chunklist_listing::chunk_lines` meets its contract: by what the first pass showed (`Chunks.antt`). Assumes nothing.
use Rattle.std.proofs.Common.{◌++◌, ◌∙◌, sym, ap, length, take}
use Rattle.format.specs.ReadChunk.{read}
use Rattle.read_next.specs.Inner.Rows.{chunk_rows}
use Rattle.text_print.specs.Output.{waiting, puts}
use Rattle.text_print.proofs.GivenLaws.{begins, put_next, stops, ends, printed_err}
use Rattle.validate_verdict.proofs.Chunk.{few_instructions}
use Rattle.chunklist_lines.specs.Lines.{first_line}
use Rattle.chunklist_lines.proofs.Laws.{nothing}
use Rattle.chunklist_listing.specs.Inner.Rows.{row_lines}
use Rattle.chunklist_listing.proofs.Chunks.{refused-lines, all-counted, chunk_put_ok, lines_printed}
use Rattle.chunklist_listing.proofs.chunk_lines.Goals as goal

pub function_lines-requires-clause-max_total_instructions_bound :
    goal.function_lines-requires-clause-max_total_instructions_bound
function_lines-requires-clause-max_total_instructions_bound g c =
    let a = c.args in
    let d = c.in-Ok.summary in
    let e = sym c.in-Ok.is ∙ c.judge_chunk.ensures in
    (few_instructions a.limits a.s.now d e, all-counted a.limits a.s.now d e)

pub returns-in_default-clause-result_after : goal.returns-in_default-clause-result_after
returns-in_default-clause-result_after g c =
    let a = c.args in
    let none = refused-lines (length a.s.now) a.verdict (read a.limits a.s.now) _
    (sym c.in_default.is ∙ c.judge_chunk.ensures) in
    nothing _ ∙ ap (λ l. puts l (waiting a.out.now a.used)) none

pub returns-in_err-used-clause-given : goal.returns-in_err-used-clause-given
returns-in_err-used-clause-given g c =
    let a = c.args in
    let d = c.in-Ok.summary in
    let waits = take a.used a.out.now in
    let line = first_line (length a.s.now) d.functions d.trailing_len a.verdict in
    let rows = row_lines 0 (chunk_rows a.limits a.s.now 32) in
    lines_printed a.limits a.s.now d
    (sym c.in-Ok.is ∙ c.judge_chunk.ensures) a.verdict c.first_line.new.out c.from_residual.result _ _ waits
    (printed_err _ _ _ _ c.from_residual.result c.from_residual.ensures.0
    (stops _ _ _ _ waits line rows (begins (g.W.Write.contents a.to.now) _) c.in_err-used.ensures.given))

pub returns-clause-result_after : goal.returns-clause-result_after
returns-clause-result_after g c =
    let a = c.args in
    chunk_put_ok a.limits a.s.now c.in-Ok.summary
    (sym c.in-Ok.is ∙ c.judge_chunk.ensures) a.verdict c.function_lines.new.out c.function_lines.result
    (waiting a.out.now a.used) c.in_ok-used.ensures.result_after c.function_lines.ensures.result_after

pub returns-clause-given : goal.returns-clause-given
returns-clause-given g c =
    let a = c.args in
    let d = c.in-Ok.summary in
    let waits = take a.used a.out.now in
    let line = first_line (length a.s.now) d.functions d.trailing_len a.verdict in
    let rows = row_lines 0 (chunk_rows a.limits a.s.now 32) in
    lines_printed a.limits a.s.now d
    (sym c.in-Ok.is ∙ c.judge_chunk.ensures) a.verdict c.function_lines.new.out c.function_lines.result _ _ waits
    (ends _ (g.W.Write.contents c.first_line.new.to) _ _
    (take c.in_ok-used.used c.first_line.new.out) rows c.function_lines.new.out c.function_lines.result
    (put_next _ _ _ _ waits line rows
    (begins (g.W.Write.contents a.to.now) (waits ++ (line ++ rows))) _ c.in_ok-used.ensures.given)
    c.function_lines.ensures.given)
