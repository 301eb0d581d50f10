-- `slice::little::u64_at` meets its contract (`Fields.antt`'s `eight`). Assumes nothing.
use Rattle.slice.proofs.Fields.{eight}
use Rattle.slice.proofs.little.u64_at.Goals as goal

pub returns : goal.returns
returns c =
    eight c.args.at c.args.s.now _ _ c.requires c.u32_at.ensures c.u32_at-2.ensures
