-- `read_nth::code::nth_upvalue` meets its contract: those before the entry are passed over, then it is read (`Passing.antt`). Assumes nothing.
use mathlib.Core.Path.{sym, ◌∙◌}
use Rattle.format.specs.ReadChunk.{upvalue}
use Rattle.format.proofs.Exact.{exact_many}
use Rattle.format.proofs.ExactChunk.{exact_upvalue}
use Rattle.read_nth.specs.Shown.{upvalue_result}
use Rattle.read_nth.proofs.Passing.{second_read}
use Rattle.read_nth.proofs.code.nth_upvalue.Goals as goal

pub returns : goal.returns
returns c = let a = c.args in
    second_read (exact_many a.entry exact_upvalue) upvalue upvalue_result a.s.now a.cursor.at _ (sym c.in_ok-next.was ∙ c.skip_upvalues.ensures) c.read_upvalue.ensures
