-- `copy_entry::entry::put_value` meets its contract: by the kind of constant. Assumes nothing.
use Rattle.copy_entry.proofs.entry.put_value.Goals as goal

pub returns-in-ShortString : goal.returns-in-ShortString
returns-in-ShortString c = λ h. rw c.in-ShortString.is (c.put_tagged.ensures (rw c.in-ShortString.is at h))

pub returns-in-LongString : goal.returns-in-LongString
returns-in-LongString c = λ h. rw c.in-LongString.is (c.put_tagged-in-LongString.ensures (rw c.in-LongString.is at h))

pub returns-in-Nil : goal.returns-in-Nil
returns-in-Nil c = λ h. let k = rw c.in-Nil.is at h in rw c.in-Nil.is (c.put_between.ensures k.0 k.1)

pub returns-in-Boolean : goal.returns-in-Boolean
returns-in-Boolean c = λ h. let k = rw c.in-Boolean.is at h in rw c.in-Boolean.is (c.put_between-in-Boolean.ensures k.0 k.1)

pub returns-in-Integer : goal.returns-in-Integer
returns-in-Integer c = λ h. let k = rw c.in-Integer.is at h in rw c.in-Integer.is (c.put_between-in-Integer.ensures k.0 k.1)

pub returns-in-Float : goal.returns-in-Float
returns-in-Float c = λ h. let k = rw c.in-Float.is at h in rw c.in-Float.is (c.put_between-in-Float.ensures k.0 k.1)
