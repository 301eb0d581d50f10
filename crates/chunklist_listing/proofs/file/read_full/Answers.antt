-- `chunklist_listing::file::read_full` meets its contract. Assumes nothing.
use Rattle.std.proofs.Common.{rules}
use Rattle.chunklist_listing.proofs.ReadLaws.{read_more}
use Rattle.chunklist_listing.proofs.file.read_full.Goals as goal

pub loop-done-preserved : goal.loop-done-preserved
loop-done-preserved g c =
    let l = c.loop-done in (
      search rules,
      search rules,
      read_more l.done c.in_ok-n.n l.buf c.read.new.buf l.invariant.0 c.in_ok-n.ensures.bound.0 _
          (g.R.Read.remaining l.from) _ l.invariant.2 c.in_ok-n.ensures.bytes.0,
    )
