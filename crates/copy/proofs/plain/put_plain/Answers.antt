-- `copy::plain::put_plain` meets its contract (`PlainChunks.antt`). Assumes nothing.
use Rattle.copy.proofs.PlainChunks.{plain_put}
use Rattle.copy.proofs.plain.put_plain.Goals as goal

pub returns : goal.returns
returns c =
    let a = c.args in
    plain_put a.s.now a.upvalues _ c.remaining-rest.ensures c.put_front-behind.ensures c.put_bytes.ensures
