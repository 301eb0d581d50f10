-- `read_header::and_expect` meets its contract: behind a refusal nothing, else what `expect` says. Assumes nothing.
use Rattle.read_header.proofs.and_expect.Goals as goal

pub returns : goal.returns
returns c = rw (c.expect.ensures, c.refusal_of.ensures, c.in_ok-cursor.was)
