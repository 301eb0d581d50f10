-- The two lists agree below i, which is not behind the second one's end.
use Rattle.std.proofs.Common.{◌≡◌, ℕ, ◌<◌, ◌≤◌, length, get_or}
use Rattle.vectors_compare.proofs.first_difference.Given as goal

abbrev pub invariant-loop-i : goal.invariant-loop-i
invariant-loop-i l = ((k : ℕ) → k < l.i → get_or l.a k 0 ≡ get_or l.b k 0) × (l.i ≤ length l.b)
