-- What the whole puts is what the rest puts; and of what waited and the whole, all was given to the writer but for what
-- waits now and the rest.
use Rattle.std.proofs.Common.{take, drop, ◌++◌, ◌≡◌}
use Rattle.text_print.specs.Output.{Fits, waiting, puts, Gives}
use Rattle.text_print.proofs.text.Given as goal

abbrev pub invariant-loop-b : goal.invariant-loop-b
invariant-loop-b g l =
    Fits l.at
    × (puts (drop l.b-index l.s) (waiting l.out l.at) ≡ puts l.s (waiting l.initial.out l.used))
    × Gives (g.W.Write.contents l.initial.to) (g.W.Write.contents l.to) (take l.used l.initial.out ++ l.s)
    (take l.at l.out ++ drop l.b-index l.s)
