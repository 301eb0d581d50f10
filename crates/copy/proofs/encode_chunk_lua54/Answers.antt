-- `copy::encode_chunk_lua54` meets its contract: by what judging showed (`PlainChunks.antt`). Assumes nothing.
use mathlib.Core.Path.{sym, ◌∙◌}
use Rattle.copy.proofs.Outcomes.{all-bytes}
use Rattle.copy.proofs.PlainChunks.{plain_short, plain_whole}
use Rattle.copy.proofs.encode_chunk_lua54.Goals as goal

pub returns-then-out-s : goal.returns-then-out-s
returns-then-out-s c =
    let a = c.args in
    let both = plain_short a.s.now a.limits (all-bytes a.s.now (λ i h. (c.type_inv.s i).fits)) _ c.in_ok-spelling.spelling c.in_ok-spelling.ensures
    (sym c.is_plain.ensures ∙ c.if-not-is_plain.false)
    a.out.now c.if-out-s.true in
    record {
      value = both.0;
      out_after = both.1;
    }

pub returns-else-out-s : goal.returns-else-out-s
returns-else-out-s c =
    let a = c.args in
    let both = plain_whole a.s.now a.limits (all-bytes a.s.now (λ i h. (c.type_inv.s i).fits)) _ c.in_ok-spelling.spelling c.in_ok-spelling.ensures
    (sym c.is_plain.ensures ∙ c.if-not-is_plain.false)
    a.out.now c.if-out-s.false _ c.main_upvalues-upvalues.ensures c.put_plain.ensures in
    record {
      value = both.0;
      out_after = both.1;
    }
