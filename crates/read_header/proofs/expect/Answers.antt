-- `read_header::expect` meets its contract (`Expects.antt`). Assumes nothing.
use mathlib.Core.Path.{◌∙◌, sym}
use Rattle.read_header.proofs.Expects.{there, these, others}
use Rattle.read_header.proofs.expect.Goals as goal

pub same_bytes-requires : goal.same_bytes-requires
same_bytes-requires c = let a = c.args in there a.s.now a.cursor.at a.bytes.now a.refusal c.in_ok-next.next (sym c.in_ok-next.was ∙ c.read_exact.ensures)

pub returns-then-same_bytes : goal.returns-then-same_bytes
returns-then-same_bytes c = let a = c.args in these a.s.now a.cursor.at a.bytes.now a.refusal c.in_ok-next.next (sym c.in_ok-next.was ∙ c.read_exact.ensures) (sym c.same_bytes.ensures ∙ c.if-same_bytes.true)

pub returns-else-same_bytes : goal.returns-else-same_bytes
returns-else-same_bytes c = let a = c.args in others a.s.now a.cursor.at a.bytes.now a.refusal c.in_ok-next.next (sym c.in_ok-next.was ∙ c.read_exact.ensures) (sym c.same_bytes.ensures ∙ c.if-same_bytes.false)
