-- `slice::little::u32_at` meets its contract (`Fields.antt`'s `four`). Assumes nothing.
use Rattle.slice.proofs.Fields.{four}
use Rattle.slice.proofs.little.u32_at.Goals as goal

pub returns : goal.returns
returns c =
    four c.args.at c.args.s.now _ _ _ _ c.requires
    c.wide.ensures.0
    c.wide-2.ensures.0
    c.wide-3.ensures.0
    c.wide-4.ensures.0
