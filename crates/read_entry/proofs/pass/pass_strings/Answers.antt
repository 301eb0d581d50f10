-- `read_entry::pass::pass_strings` meets its contract. The invariant: there is room, and what all strings show and add those left show and add (`TurnsCounted.antt`). Assumes nothing.
use Rattle.std.proofs.lemmas.Result.{err_from_is_err_and}
use mathlib.Core.Path.{sym, ◌∙◌}
use native.Mathlib.Omega.{arith}
use Rattle.format.proofs.ExactFields.{exact_string}
use Rattle.format_spelling.proofs.SpellingLaws.{tells_string}
use Rattle.format_spelling.proofs.Few.{few_string}
use Rattle.format_spelling.proofs.Covers.{covers_few}
use Rattle.read_entry.proofs.TurnsCounted.{begins, ends, stops, goes_on_lem}
use Rattle.read_entry.proofs.pass.pass_strings.Goals as goal

pub loop-init : goal.loop-init
loop-init c = begins (omega arith) c.requires

pub pass_string-requires : goal.pass_string-requires
pass_string-requires c = c.loop.invariant.room

pub returns-in_err-next : goal.returns-in_err-next
returns-in_err-next c =
    let p = err_from_is_err_and c.from_residual.result c.from_residual.ensures.1 in
    rw (p.1, p.2) (let both = stops c.loop.invariant (omega arith) (sym c.in_err-next.was ∙ c.pass_string.ensures.value) in record { value = both.0; adds = both.1 })

pub loop-preserved : goal.loop-preserved
loop-preserved c = let limit = c.args.max_string_bytes in
    goes_on_lem c.loop.invariant (omega arith) (exact_string limit) (covers_few (exact_string limit) (tells_string limit) (few_string limit)) (sym c.in_ok-next.was ∙ c.pass_string.ensures.value) c.pass_string.ensures.adds

pub returns : goal.returns
returns c = let both = ends c.loop.invariant (omega arith) in record { value = both.0; adds = both.1 }
