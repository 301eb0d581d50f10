-- `read_prototype::parts::read_head` meets its contract: at each return the calls say which case of the reader holds (`HeadAnswers.antt`). Assumes nothing.
use Rattle.std.proofs.lemmas.Result.{err_from_is_err_and}
use Rattle.std.specs.Prelude.{Ok}
use mathlib.Core.Path.{◌≡◌, sym, ◌∙◌}
use borrow.Author.Rules.{rules}
use lib.ListN.{drop}
use Rattle.format_spelling.specs.Inner.Tally.{Room}
use Rattle.read_prototype.specs.Front.{front}
use Rattle.read_prototype.specs.Parts.{head_lists}
use Rattle.read_prototype.specs.Inner.Results.{front_result}
use Rattle.read_prototype.specs.PartsShown.{head_lists_result}
use Rattle.read_prototype.proofs.On.{nothing_said}
use Rattle.read_prototype.proofs.HeadAnswers.{front-refused, lists-refused, protos-refused, whole-head, head_err, front-room, lists-room, head-add}
use Rattle.read_prototype.proofs.parts.read_head.Goals as goal
use Rattle.read_prototype.proofs.parts.read_head.Goals.{In_ok-front, In_ok-lists}

begun : (c : In_ok-front) → let a = c.args in
    Ok (c.in_ok-front.front, c.in_ok-front.behind) ≡ front_result (front a.limits.max_string_bytes a.cursor.at (drop a.cursor.at a.s.now))
begun c = sym c.in_ok-front.was ∙ c.read_front.ensures.value

listed : (c : In_ok-lists) → let a = c.args in
    let at = c.in_ok-front.behind.at in
    Ok (c.in_ok-lists.lists, c.in_ok-lists.further) ≡ head_lists_result (head_lists a.limits a.before at (drop at a.s.now))
listed c = sym c.in_ok-lists.was ∙ c.read_head_lists.ensures.value

room : (c : In_ok-front) → Room c.read_front.new.tally c.in_ok-front.behind.at
room c =
    let begun : let a = c.args in
    Ok (c.in_ok-front.front, c.in_ok-front.behind) ≡ front_result (front a.limits.max_string_bytes a.cursor.at (drop a.cursor.at a.s.now)) = sym c.in_ok-front.was ∙ c.read_front.ensures.value in
    front-room c.args.s.now c.args.limits c.args.before c.args.cursor.at _ _ begun c.requires c.read_front.ensures.adds

pub read_front-requires : goal.read_front-requires
read_front-requires c = c.requires

pub read_head_lists-requires : goal.read_head_lists-requires
read_head_lists-requires c = room (goal.at.read_head_lists-requires c).In_ok-front

pub protos_count-requires : goal.protos_count-requires
protos_count-requires c =
    let a = c.args in
    lists-room a.s.now a.limits a.before a.cursor.at _ _ (begun (goal.at.protos_count-requires c).In_ok-front) _ _ (listed (goal.at.protos_count-requires c).In_ok-lists) (room (goal.at.protos_count-requires c).In_ok-front) c.read_head_lists.ensures.adds

pub returns-in_err-front : goal.returns-in_err-front
returns-in_err-front c =
    let p = err_from_is_err_and c.from_residual.result c.from_residual.ensures.1 in
    rw (p.1, p.2) (let a = c.args in let both = nothing_said (head_err _ _) (front-refused a.s.now a.limits a.before a.cursor.at _ (sym c.in_err-front.was ∙ c.read_front.ensures.value)) in record { value = both.0; adds = both.1 })

pub returns-in_err-lists : goal.returns-in_err-lists
returns-in_err-lists c =
    let p = err_from_is_err_and c.from_residual-in_err-lists.result c.from_residual-in_err-lists.ensures.1 in
    rw (p.1, p.2) (let a = c.args in let both = nothing_said (head_err _ _) (lists-refused a.s.now a.limits a.before a.cursor.at _ _ (begun (goal.at.returns-in_err-lists c).In_ok-front) _ (sym c.in_err-lists.was ∙ c.read_head_lists.ensures.value)) in record { value = both.0; adds = both.1 })

pub returns-in_err-protos : goal.returns-in_err-protos
returns-in_err-protos c =
    let p = err_from_is_err_and c.from_residual-in_err-protos.result c.from_residual-in_err-protos.ensures.1 in
    rw (p.1, p.2) (let a = c.args in let both = nothing_said (head_err _ _) (protos-refused a.s.now a.limits a.before a.cursor.at _ _ (begun (goal.at.returns-in_err-protos c).In_ok-front) _ _ (listed (goal.at.returns-in_err-protos c).In_ok-lists) _ (sym c.in_err-protos.was ∙ c.protos_count.ensures.value)) in record { value = both.0; adds = both.1 })

pub returns : goal.returns
returns c =
    let a = c.args in record { value = whole-head a.s.now a.limits a.before a.cursor.at _ _ (begun (goal.at.returns c).In_ok-front) _ _ (listed (goal.at.returns c).In_ok-lists) _ _ _ (sym c.in_ok-protos.was ∙ c.protos_count.ensures.value); adds = head-add a.s.now a.limits a.before a.cursor.at _ _ (begun (goal.at.returns c).In_ok-front) _ _ (listed (goal.at.returns c).In_ok-lists) c.read_front.ensures.adds c.read_head_lists.ensures.adds c.protos_count.ensures.adds }
