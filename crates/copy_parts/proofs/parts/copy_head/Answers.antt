-- `copy_parts::parts::copy_head` meets its contract: at each return the calls say which case of the reader holds (`HeadAnswers.antt` of read_prototype), and what is put (`HeadPut.antt`). Assumes nothing.
use Rattle.std.proofs.lemmas.Result.{err_from_is_err_and}
use Rattle.std.specs.Prelude.{Ok}
use mathlib.Core.Path.{sym, ◌∙◌, ap}
use lib.ListN.{drop}
use Rattle.read_prototype.specs.Front.{front}
use Rattle.read_prototype.specs.Parts.{head_lists}
use Rattle.read_prototype.specs.PartsShown.{head_lists_result}
use Rattle.read_prototype.specs.Inner.Results.{front_result}
use Rattle.read_prototype.proofs.HeadAnswers.{lists-refused, protos-refused, whole-head}
use Rattle.copy_parts.specs.Inner.Heads.{head_counted}
use Rattle.copy_parts.proofs.FrontPut.{front_was}
use Rattle.copy_parts.proofs.HeadPut.{lists_were, lists_stops, head_copied}
use Rattle.copy_parts.proofs.parts.copy_head.Goals as goal

pub returns-in_err-lists : goal.returns-in_err-lists
returns-in_err-lists c =
    let a = c.args in
    let behind = c.in_ok-front.front.next in
    let was = front_was (front_result (front a.limits.max_string_bytes a.cursor.at (drop a.cursor.at a.s.now))) behind c.in_ok-front.ensures.read_value in
    let stops = lists_stops (head_lists_result (head_lists a.limits a.before behind.at (drop behind.at a.s.now))) _ c.in_err-lists.ensures.lists_value in
    let e = lists-refused a.s.now a.limits a.before a.cursor.at was.value behind was.is _ stops in
    let p = err_from_is_err_and c.from_residual-in_err-lists.result c.from_residual-in_err-lists.ensures.1 in
    rw (p.1, p.2) (record { begins_value = ap head_counted e; puts_head = λ bytes. tt })

pub returns-in_err-protos : goal.returns-in_err-protos
returns-in_err-protos c =
    let a = c.args in
    let behind = c.in_ok-front.front.next in
    let was = front_was (front_result (front a.limits.max_string_bytes a.cursor.at (drop a.cursor.at a.s.now))) behind c.in_ok-front.ensures.read_value in
    let lists = c.in_ok-lists.lists in
    let were = lists_were (head_lists_result (head_lists a.limits a.before behind.at (drop behind.at a.s.now))) lists.instructions lists.upvalues lists.next c.in_ok-lists.ensures.lists_value in
    let e = protos-refused a.s.now a.limits a.before a.cursor.at was.value behind was.is were.value lists.next were.is _ c.in_err-protos.ensures.value in
    let p = err_from_is_err_and c.from_residual-in_err-protos.result c.from_residual-in_err-protos.ensures.1 in
    rw (p.1, p.2) (record { begins_value = ap head_counted e; puts_head = λ bytes. tt })

pub returns : goal.returns
returns c =
    let a = c.args in
    let behind = c.in_ok-front.front.next in
    let was = front_was (front_result (front a.limits.max_string_bytes a.cursor.at (drop a.cursor.at a.s.now))) behind c.in_ok-front.ensures.read_value in
    let lists = c.in_ok-lists.lists in
    let were = lists_were (head_lists_result (head_lists a.limits a.before behind.at (drop behind.at a.s.now))) lists.instructions lists.upvalues lists.next c.in_ok-lists.ensures.lists_value in
    let protos = c.in_ok-protos.protos in
    let next = c.in_ok-protos.next in
    let e = whole-head a.s.now a.limits a.before a.cursor.at was.value behind was.is were.value lists.next were.is protos.count protos.place next c.in_ok-protos.ensures.value in
    record {
      begins_value = (λ i. Ok ((record { instructions = were.instructions i; upvalues = were.upvalues i; protos = protos.count }), next)) ∙ ap head_counted e;
      puts_head = λ bytes. head_copied a.s.now a.limits a.before a.cursor.at a.named e (c.in_ok-front.ensures.puts_front.put _ _ (sym was.is)) (c.in_ok-lists.ensures.puts_lists.put _ _ (sym were.is)) c.put_varint-len.ensures bytes;
    }
