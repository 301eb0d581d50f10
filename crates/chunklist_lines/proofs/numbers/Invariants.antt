-- What the whole puts is what the rest puts; and of the whole line, all was given to the writer but for what waits now
-- and the rest.
use Rattle.std.proofs.Common.{take, drop, ◌++◌, ◌≡◌}
use Rattle.text_print.specs.Output.{Fits, waiting, puts, Gives}
use Rattle.chunklist_lines.specs.Lines.{decimal, spaced}
use Rattle.chunklist_lines.proofs.numbers.Given as goal

abbrev pub invariant-loop-x : goal.invariant-loop-x
invariant-loop-x g l =
    Fits l.at
    × (puts (spaced (drop l.x-index l.more)) (waiting l.out l.at) ≡ puts (spaced l.more) (waiting l.initial.out l.initial.at))
    × Gives (g.W.Write.contents l.fn.to) (g.W.Write.contents l.to)
    (take l.fn.used l.fn.out ++ (decimal l.first ++ spaced l.more))
    (take l.at l.out ++ spaced (drop l.x-index l.more))
