-- `copy_parts::ends::copy_tail` meets its contract: at each return the calls say which case of the reader holds (`HeadAnswers.antt` of read_prototype), and what is put (`EndsPut.antt`). Assumes nothing.
use Rattle.std.proofs.lemmas.Result.{err_from_is_err_and}
use Rattle.read_prototype.proofs.HeadAnswers.{anchors_refused, locals_refused, names_refused, whole-tail}
use Rattle.copy_parts.proofs.PutParts.{tail-put}
use Rattle.copy_parts.proofs.EndsPut.{tail_stops, tail_copied}
use Rattle.copy_parts.proofs.ends.copy_tail.Goals as goal

pub returns-in_err-anchors : goal.returns-in_err-anchors
returns-in_err-anchors c =
    let a = c.args in
    let e = anchors_refused a.s.now a.max_string_bytes a.cursor.at _ _ c.in_ok-deltas.further c.in_ok-deltas.ensures.value _ c.in_err-anchors.ensures.list_value in
    let p = err_from_is_err_and c.from_residual-in_err-anchors.result c.from_residual-in_err-anchors.ensures.1 in
    rw (p.1, p.2) (record { read_value = tail_stops _ _ e; puts_tail = tt })

pub returns-in_err-locals : goal.returns-in_err-locals
returns-in_err-locals c =
    let a = c.args in
    let e = locals_refused a.s.now a.max_string_bytes a.cursor.at _ _ c.in_ok-deltas.further c.in_ok-deltas.ensures.value _ _ c.in_ok-anchors.anchors.next c.in_ok-anchors.ensures.list_value _ c.in_err-locals.ensures.list_value in
    let p = err_from_is_err_and c.from_residual-in_err-locals.result c.from_residual-in_err-locals.ensures.1 in
    rw (p.1, p.2) (record { read_value = tail_stops _ _ e; puts_tail = tt })

pub returns-in_err-names : goal.returns-in_err-names
returns-in_err-names c =
    let a = c.args in
    let e = names_refused a.s.now a.max_string_bytes a.cursor.at _ _ c.in_ok-deltas.further c.in_ok-deltas.ensures.value _ _ c.in_ok-anchors.anchors.next c.in_ok-anchors.ensures.list_value _ _ c.in_ok-locals.locals.next c.in_ok-locals.ensures.list_value _ c.in_err-names.ensures.list_value in
    let p = err_from_is_err_and c.from_residual-in_err-names.result c.from_residual-in_err-names.ensures.1 in
    rw (p.1, p.2) (record { read_value = tail_stops _ _ e; puts_tail = tt })

pub returns : goal.returns
returns c =
    let a = c.args in
    let e = whole-tail a.s.now a.max_string_bytes a.cursor.at _ _ c.in_ok-deltas.further c.in_ok-deltas.ensures.value _ _ c.in_ok-anchors.anchors.next c.in_ok-anchors.ensures.list_value _ _ c.in_ok-locals.locals.next c.in_ok-locals.ensures.list_value _ _ c.in_ok-names.names.next c.in_ok-names.ensures.list_value in
    let both = tail_copied a.s.now a.max_string_bytes a.cursor.at _ _ e (tail-put a.s.now a.max_string_bytes _ c.put_run-first.ensures c.in_ok-anchors.ensures.puts_listed c.in_ok-locals.ensures.puts_listed c.in_ok-names.ensures.puts_listed) in
    record {
      read_value = both.0;
      puts_tail = both.1;
    }
