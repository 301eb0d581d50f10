-- `copy_parts::front::copy_front` meets its contract: at each return the calls say which case of the reader holds (`FrontAnswers.antt` of read_prototype), and what is put (`FrontPut.antt`). Assumes nothing.
use Rattle.std.proofs.lemmas.Result.{err_from_is_err_and}
use mathlib.Core.Path.{sym, ap}
use lib.ListN.{drop}
use Rattle.read_prototype.specs.Front.{lines, sizes, front}
use Rattle.read_prototype.specs.Inner.Results.{lines_result, sizes_result, front_result}
use Rattle.read_prototype.proofs.FrontAnswers.{lines-refused, sizes-refused, whole-front}
use Rattle.copy_parts.specs.Inner.Fronts.{front_read}
use Rattle.copy_parts.proofs.FrontPut.{lines_were, lines_stops, front-last}
use Rattle.copy_parts.proofs.front.copy_front.Goals as goal

pub returns-in_err-lines : goal.returns-in_err-lines
returns-in_err-lines c =
    let a = c.args in
    let at = c.in_ok-source.next.at in
    let stops = lines_stops (lines_result (lines at (drop at a.s.now))) _ c.in_err-lines.ensures.read_value in
    let e = lines-refused a.s.now a.max_string_bytes a.cursor.at _ c.in_ok-source.next c.in_ok-source.ensures _ stops in
    let p = err_from_is_err_and c.from_residual-in_err-lines.result c.from_residual-in_err-lines.ensures.1 in
    rw (p.1, p.2) (record { read_value = ap front_read e; puts_front = tt })

pub returns : goal.returns
returns c =
    let a = c.args in
    let at = c.in_ok-source.next.at in
    let behind = c.in_ok-lines.lines.next in
    let source = c.in_ok-source.ensures in
    let were = lines_were (lines_result (lines at (drop at a.s.now))) behind c.in_ok-lines.ensures.read_value in
    let both = front-last a.s.now a.named _ c.copy_sizes.result (sizes_result (sizes behind.at (drop behind.at a.s.now))) (front_result (front a.max_string_bytes a.cursor.at (drop a.cursor.at a.s.now)))
    (λ q e. sizes-refused a.s.now a.max_string_bytes a.cursor.at _ c.in_ok-source.next source were.value behind were.is q e)
    (λ y d e. whole-front a.s.now a.max_string_bytes a.cursor.at _ c.in_ok-source.next source were.value behind were.is y d e)
    c.put_source-behind.ensures (c.in_ok-lines.ensures.puts_lines.put were.value behind (sym were.is)) c.copy_sizes.ensures.puts_sizes c.copy_sizes.ensures.read_value in
    record {
      read_value = both.0;
      puts_front = both.1;
    }
