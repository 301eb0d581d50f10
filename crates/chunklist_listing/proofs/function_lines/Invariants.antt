-- What all rows put is what those still to come put; and of all their lines, all was given to the writer but for what
-- waits now and the lines still to
-- come. The measure is how many they are.
use Rattle.std.proofs.Common.{◌+◌, ◌++◌, ◌≡◌, length, take}
use Rattle.read_next.specs.Inner.Rows.{LEVELS, rows_from, chunk_rows}
use Rattle.text_print.specs.Output.{Fits, waiting, puts, Gives}
use Rattle.chunklist_listing.specs.Inner.Rows.{row_lines}
use Rattle.chunklist_listing.proofs.function_lines.Given as goal

abbrev pub invariant-loop-row : goal.invariant-loop-row
invariant-loop-row g l =
    (length l.left ≡ LEVELS + 1)
    × (l.number + length (rows_from l.limits l.s l.left l.depth l.at.at) ≡ l.n)
    × Fits l.used
    × (puts (row_lines l.number (rows_from l.limits l.s l.left l.depth l.at.at)) (waiting l.out l.used)
    ≡ puts (row_lines 0 (chunk_rows l.limits l.s l.initial.at.at)) (waiting l.initial.out l.initial.used))
    × Gives (g.W.Write.contents l.initial.to) (g.W.Write.contents l.to)
    (take l.initial.used l.initial.out ++ row_lines 0 (chunk_rows l.limits l.s l.initial.at.at))
    (take l.used l.out ++ row_lines l.number (rows_from l.limits l.s l.left l.depth l.at.at))

abbrev pub decreases-loop-row : goal.decreases-loop-row
decreases-loop-row g l = length (rows_from l.limits l.s l.left l.depth l.at.at)
