-- `copy_parts::front::put_source` meets its contract. Assumes nothing.
use Rattle.copy_parts.proofs.front.put_source.Goals as goal

pub returns-then-named : goal.returns-then-named
returns-then-named c = λ h. rw c.if-named.true (c.put_string.ensures h)

pub returns : goal.returns
returns c = λ h. rw c.if-named.false c.put_varint.ensures
