-- `copy::respell` meets its contract: the first pass says which case of the reading holds (`Outcomes.antt`). Assumes nothing.
use mathlib.Core.Path.{sym, ◌∙◌}
use Rattle.format.specs.ReadChunk.{read}
use Rattle.copy.proofs.Outcomes.{copy-short, copy-whole}
use Rattle.copy.proofs.respell.Goals as goal

pub returns-then-out-len : goal.returns-then-out-len
returns-then-out-len c =
    let a = c.args in
    let both = copy-short a.out.now (read a.limits a.s.now) _ c.in_ok-len.ensures c.if-out-len.true in
    record {
      value = both.0;
      out_after = both.1;
    }

pub returns : goal.returns
returns c =
    let a = c.args in
    let both = copy-whole a.out.now (read a.limits a.s.now) _ c.in_ok-len.ensures c.if-out-len.false c.copy_chunk.ensures in
    record {
      value = c.copy_chunk.ensures.is ∙ sym c.in_ok-len.ensures ∙ both.0;
      out_after = both.1;
    }
