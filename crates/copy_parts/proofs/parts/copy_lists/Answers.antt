-- `copy_parts::parts::copy_lists` meets its contract: at each return the calls say which case of the reader holds (`HeadAnswers.antt` of read_prototype), and what is put (`HeadPut.antt`). Assumes nothing.
use Rattle.std.proofs.lemmas.Result.{err_from_is_err_and}
use mathlib.Core.Path.{ap}
use Rattle.read_prototype.proofs.HeadAnswers.{constants-refused, upvalues-refused, all-lists}
use Rattle.copy_parts.specs.Inner.Heads.{lists_counted}
use Rattle.copy_parts.proofs.HeadPut.{lists_copied}
use Rattle.copy_parts.proofs.parts.copy_lists.Goals as goal

pub returns-in_err-constants : goal.returns-in_err-constants
returns-in_err-constants c =
    let a = c.args in
    let e = constants-refused a.s.now a.limits a.before a.cursor.at _ _ c.in_ok-code.further c.in_ok-code.ensures.value _ c.in_err-constants.ensures.list_value in
    let p = err_from_is_err_and c.from_residual-in_err-constants.result c.from_residual-in_err-constants.ensures.1 in
    rw (p.1, p.2) (record { lists_value = ap lists_counted e; puts_lists = tt })

pub returns-in_err-upvalues : goal.returns-in_err-upvalues
returns-in_err-upvalues c =
    let a = c.args in
    let e = upvalues-refused a.s.now a.limits a.before a.cursor.at _ _ c.in_ok-code.further c.in_ok-code.ensures.value _ _ c.in_ok-constants.constants.next c.in_ok-constants.ensures.list_value _ c.in_err-upvalues.ensures.value in
    let p = err_from_is_err_and c.from_residual-in_err-upvalues.result c.from_residual-in_err-upvalues.ensures.1 in
    rw (p.1, p.2) (record { lists_value = ap lists_counted e; puts_lists = tt })

pub returns : goal.returns
returns c =
    let a = c.args in
    let e = all-lists a.s.now a.limits a.before a.cursor.at _ _ c.in_ok-code.further c.in_ok-code.ensures.value _ _ c.in_ok-constants.constants.next c.in_ok-constants.ensures.list_value _ _ c.in_ok-upvalues.next c.in_ok-upvalues.ensures.value in
    record {
      lists_value = ap lists_counted e;
      puts_lists = lists_copied a.s.now a.limits _ e c.put_run-first.ensures c.in_ok-constants.ensures.puts_listed c.put_run-behind.ensures;
    }
