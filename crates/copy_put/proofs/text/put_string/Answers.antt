-- `copy_put::text::put_string` meets its contract. Assumes nothing.
use Rattle.copy_put.proofs.text.put_string.Goals as goal

pub returns-in-None : goal.returns-in-None
returns-in-None c = λ h. rw c.in-None.is c.put_varint.ensures

pub returns-in-Some : goal.returns-in-Some
returns-in-Some c = λ h. rw c.in-Some.is (c.put_present.ensures (rw c.in-Some.is at h))
