-- `text_read::number::unsigned` meets its contract: what the whole spells is what the rest spells behind the value.
use Rattle.std.proofs.Common.{◌≡◌, ◌≤◌, drop, Some}
use Rattle.text_read.specs.Inner.Numbers.{spelling, spelt}
use Rattle.text_read.proofs.number.unsigned.Given as goal

abbrev pub invariant-loop-b : goal.invariant-loop-b
invariant-loop-b l =
    (l.value ≤ l.most)
    × (spelling l.base l.most (Some l.value) (drop l.b-index l.s) ≡ spelt l.base l.most l.s)
