-- `text_list::numbers` meets its contract: what was taken so far is pushed, as far as there is room.
use Rattle.std.proofs.Common.{◌≡◌, ℕ, ◌+◌, ◌-◌, ◌<◌, map, min, get_or}
use Rattle.text_list.proofs.numbers.Given as goal

abbrev pub invariant-loop-x : goal.invariant-loop-x
invariant-loop-x g l = record {
  end : l.end ≡ l.at + min (65536 - l.at) l.x-index;
  before : (k : ℕ) → k < l.at → get_or l.list k 0 ≡ get_or l.initial.list k 0;
  numbers : (k : ℕ) → l.at + k < l.end → get_or l.list (l.at + k) 0 ≡ get_or (map g.T.Number.value l.taken) k 0;
}
