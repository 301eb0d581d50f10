-- `copy_parts::front::copy_lines` meets its contract: at each return the calls say which case of the reader holds (`FrontAnswers.antt` of read_prototype), and what is put (`FrontPut.antt`). Assumes nothing.
use Rattle.std.proofs.lemmas.Result.{err_from_is_err_and}
use mathlib.Core.Path.{ap}
use Rattle.read_prototype.proofs.FrontAnswers.{last-refused, two-lines}
use Rattle.copy_parts.specs.Inner.Fronts.{lines_read}
use Rattle.copy_parts.proofs.FrontPut.{lines_copied}
use Rattle.copy_parts.proofs.front.copy_lines.Goals as goal

pub returns-in_err-last_line_defined : goal.returns-in_err-last_line_defined
returns-in_err-last_line_defined c =
    let a = c.args in
    let p = err_from_is_err_and c.from_residual-in_err-last_line_defined.result c.from_residual-in_err-last_line_defined.ensures.1 in
    rw (p.1, p.2) (record { read_value = ap lines_read (last-refused a.s.now a.cursor.at _ _ c.in_ok-line_defined.ensures _ c.in_err-last_line_defined.ensures); puts_lines = tt })

pub returns : goal.returns
returns c =
    let a = c.args in
    let e = two-lines a.s.now a.cursor.at _ _ c.in_ok-line_defined.ensures _ _ c.in_ok-last_line_defined.ensures in
    record {
      read_value = ap lines_read e;
      puts_lines = lines_copied e c.put_lines-behind.ensures;
    }
