-- What is held of the input lies in the buffer.
use Rattle.std.proofs.Common.{◌≡◌, length}
use Rattle.text_line.specs.Inner.Lines.{Held}
use Rattle.vectors.proofs.respond_all.Given as goal

abbrev pub invariant-loop : goal.invariant-loop
invariant-loop g l = (length l.buf ≡ length l.initial.buf) × Held l.lines (length l.buf)
