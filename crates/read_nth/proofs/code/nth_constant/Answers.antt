-- `read_nth::code::nth_constant` meets its contract: those before the entry are passed over, then it is read (`Passing.antt`). Assumes nothing.
use mathlib.Core.Path.{sym, ◌∙◌}
use Rattle.format.specs.ReadChunk.{constant}
use Rattle.format.proofs.Exact.{exact_many}
use Rattle.format.proofs.ExactChunk.{exact_constant}
use Rattle.read_entry.specs.Shown.{constant_result}
use Rattle.format_spelling.proofs.Tallies.{room_unused}
use Rattle.read_nth.proofs.Passing.{second_read}
use Rattle.read_nth.proofs.code.nth_constant.Goals as goal

pub pass_constants-requires : goal.pass_constants-requires
pass_constants-requires c = room_unused _

pub returns : goal.returns
returns c = let a = c.args in
    second_read (exact_many a.entry (exact_constant a.max_string_bytes)) (constant a.max_string_bytes) constant_result a.s.now a.cursor.at _ (sym c.in_ok-next.was ∙ c.pass_constants.ensures.value) c.read_constant.ensures
