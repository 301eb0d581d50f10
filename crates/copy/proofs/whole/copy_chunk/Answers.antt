-- `copy::whole::copy_chunk` meets its contract: by what `open_chunk` and `copy_functions` showed (`Outcomes.antt`). Assumes nothing.
use Rattle.std.proofs.lemmas.Result.{err_from_is_err_and}
use native.Mathlib.Omega.{arith}
use Rattle.format.specs.ReadChunk.{read}
use Rattle.read_chunk.proofs.Summaries.{in_ceilings, input_ceiling}
use Rattle.read_chunk.proofs.BeforeMain.{not_opened, known}
use Rattle.copy.proofs.Outcomes.{stopped, chunk_copied, all-bytes}
use Rattle.copy.proofs.whole.copy_chunk.Goals as goal

pub copy_functions-requires : goal.copy_functions-requires
copy_functions-requires c =
    let a = c.args in
    in_ceilings a.limits (known a.limits a.s.now c.in_ok-opening.opening c.in_ok-opening.ensures).within

pub returns-in_err-opening : goal.returns-in_err-opening
returns-in_err-opening c =
    let a = c.args in
    let p = err_from_is_err_and c.from_residual.result c.from_residual.ensures.1 in
    rw (p.1, p.2) (stopped (read a.limits a.s.now) _ _ _ (not_opened a.limits a.s.now _ c.in_err-opening.ensures))

pub returns : goal.returns
returns c =
    let a = c.args in
    let opens = c.in_ok-opening.ensures in
    let is = known a.limits a.s.now c.in_ok-opening.opening opens in
    chunk_copied a.limits a.s.now c.in_ok-opening.opening opens _ _ _
    (c.copy_functions.ensures (all-bytes a.s.now (λ i h. (c.type_inv.s i).fits)) (let input = input_ceiling a.limits is.within in let fits = is.fits in omega arith))
