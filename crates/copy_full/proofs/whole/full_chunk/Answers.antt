-- `copy_full::whole::full_chunk` meets its contract: by what `open_chunk` and `full_functions` showed (crates/copy/proofs/Outcomes.antt). Assumes nothing.
use Rattle.std.proofs.lemmas.Result.{err_from_is_err_and}
use native.Mathlib.Omega.{arith}
use Rattle.format.specs.ReadChunk.{read}
use Rattle.read_chunk.proofs.Summaries.{in_ceilings, input_ceiling}
use Rattle.read_chunk.proofs.BeforeMain.{not_opened, known}
use Rattle.format.specs.FullCopy.{full_functions, full_copy}
use Rattle.copy.proofs.Outcomes.{by_stopped, by_chunk_copied, all-bytes}
use Rattle.copy_full.proofs.FullMain.{chunk_is}
use Rattle.copy_full.proofs.whole.full_chunk.Goals as goal

pub full_functions-requires : goal.full_functions-requires
full_functions-requires c =
    let a = c.args in
    in_ceilings a.limits (known a.limits a.s.now c.in_ok-opening.opening c.in_ok-opening.ensures).within

pub returns-in_err-opening : goal.returns-in_err-opening
returns-in_err-opening c =
    let a = c.args in
    let p = err_from_is_err_and c.from_residual.result c.from_residual.ensures.1 in
    rw (p.1, p.2) (by_stopped full_copy (read a.limits a.s.now) _ _ _ (not_opened a.limits a.s.now _ c.in_err-opening.ensures))

pub returns : goal.returns
returns c =
    let a = c.args in
    let opens = c.in_ok-opening.ensures in
    let is = known a.limits a.s.now c.in_ok-opening.opening opens in
    by_chunk_copied full_copy full_functions chunk_is a.limits a.s.now c.in_ok-opening.opening opens _ _ _
    (c.full_functions.ensures (all-bytes a.s.now (λ i h. (c.type_inv.s i).fits)) (let input = input_ceiling a.limits is.within in let fits = is.fits in omega arith))
