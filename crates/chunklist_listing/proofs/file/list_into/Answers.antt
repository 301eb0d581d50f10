-- `chunklist_listing::file::list_into` meets its contract: what is in the buffer is listed as the file is
-- (ReadLaws.antt). Assumes nothing.
use Rattle.std.proofs.Common.{take, arith, subst}
use Rattle.text_print.specs.Output.{Gives, Cut, Written}
use Rattle.text_print.proofs.GivenLaws.{written_err, written_after, nothing_given}
use Rattle.chunklist_listing.specs.Listing.{listing}
use Rattle.chunklist_listing.proofs.ReadLaws.{for_known, same_listing}
use Rattle.chunklist_listing.proofs.file.list_into.Goals as goal

pub returns-in_err-n : goal.returns-in_err-n
returns-in_err-n g c =
    let before = g.W.Write.contents c.args.to.now in
    for_known (g.R.Read.remaining c.args.from.now) (λ file. Written before before (listing file) c.from_residual.result)
    (λ file e. written_err before before (listing file) c.from_residual.result c.from_residual.ensures.0
    (nothing_given before (listing file)))

pub returns-in_err-used : goal.returns-in_err-used
returns-in_err-used g c =
    let before = g.W.Write.contents c.args.to.now in
    let after = g.W.Write.contents c.listing.new.to in
    for_known (g.R.Read.remaining c.args.from.now)
    (λ file. Written before after (listing file) c.from_residual-in_err-used.result) (λ file e.
    let same = same_listing file c.read_full.new.buf c.in_ok-n.n (omega arith) c.in_ok-n.ensures.bound
    (g.R.Read.remaining c.read_full.new.from)
    (rw e at c.in_ok-n.ensures.bytes) c.in_ok-n.ensures.end in
    written_err before after (listing file) c.from_residual-in_err-used.result c.from_residual-in_err-used.ensures.0
    (subst (λ l. Cut before after l) same c.in_err-used.ensures.given.cut))

pub returns : goal.returns
returns g c = for_known _ _ (λ file e.
    let same = same_listing file c.read_full.new.buf c.in_ok-n.n (omega arith) c.in_ok-n.ensures.bound
    (g.R.Read.remaining c.read_full.new.from)
    (rw e at c.in_ok-n.ensures.bytes) c.in_ok-n.ensures.end in
    written_after _ (g.W.Write.contents c.listing.new.to) _ _ (take c.in_ok-used.used c.listing.new.out) c.flush.result
    (subst (λ l. Gives (g.W.Write.contents c.args.to.now) (g.W.Write.contents c.listing.new.to) l
    (take c.in_ok-used.used c.listing.new.out)) same c.in_ok-used.ensures.given)
    c.flush.ensures)
