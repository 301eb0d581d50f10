-- `read_header::format_warning` meets its contract: by whether the format is 0. Assumes nothing.
use borrow.Author.Tests.{eq-eqb, ne_eqb}
use Rattle.read_header.proofs.format_warning.Goals as goal

pub returns-then-format-eq0 : goal.returns-then-format-eq0
returns-then-format-eq0 c = rw (eq-eqb c.args.format 0 c.if-format-eq0.true)

pub returns-else-format-eq0 : goal.returns-else-format-eq0
returns-else-format-eq0 c = rw (ne_eqb c.args.format 0 c.if-format-eq0.false)
