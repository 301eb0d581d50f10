-- `read_entry::pass::pass_constants` meets its contract. The invariant: there is room, and what all constants show and add those left show and add (`TurnsCounted.antt`). Assumes nothing.
use Rattle.std.proofs.lemmas.Result.{err_from_is_err_and}
use mathlib.Core.Path.{sym, ◌∙◌}
use native.Mathlib.Omega.{arith}
use Rattle.format.proofs.ExactChunk.{exact_constant}
use Rattle.format_spelling.proofs.SpellingLaws.{tells_constant}
use Rattle.format_spelling.proofs.Few.{few_constant}
use Rattle.format_spelling.proofs.Covers.{covers_few}
use Rattle.read_entry.proofs.TurnsCounted.{begins, ends, stops, goes_on_lem}
use Rattle.read_entry.proofs.pass.pass_constants.Goals as goal

pub loop-constant-init : goal.loop-constant-init
loop-constant-init c = begins (omega arith) c.requires

pub pass_constant-requires : goal.pass_constant-requires
pass_constant-requires c = c.loop-constant.invariant.room

pub returns-in_err-next : goal.returns-in_err-next
returns-in_err-next c =
    let p = err_from_is_err_and c.from_residual.result c.from_residual.ensures.1 in
    rw (p.1, p.2) (let both = stops c.loop-constant.invariant (omega arith) (sym c.in_err-next.was ∙ c.pass_constant.ensures.value) in record { value = both.0; adds = both.1 })

pub loop-constant-preserved : goal.loop-constant-preserved
loop-constant-preserved c = let limit = c.args.max_string_bytes in
    goes_on_lem c.loop-constant.invariant (omega arith) (exact_constant limit) (covers_few (exact_constant limit) (tells_constant limit) (few_constant limit)) (sym c.in_ok-next.was ∙ c.pass_constant.ensures.value) c.pass_constant.ensures.adds

pub returns : goal.returns
returns c = let both = ends c.loop-constant.invariant (omega arith) in record { value = both.0; adds = both.1 }
