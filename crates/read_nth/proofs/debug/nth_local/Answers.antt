-- `read_nth::debug::nth_local` meets its contract: those before the entry are passed over, then it is read (`Passing.antt`). Assumes nothing.
use mathlib.Core.Path.{sym, ◌∙◌}
use Rattle.format.proofs.Exact.{exact_many}
use Rattle.format.proofs.ExactChunk.{exact_local}
use Rattle.read_entry.specs.Readers.{raw_local}
use Rattle.read_entry.specs.Shown.{local_result}
use Rattle.format_spelling.proofs.Tallies.{room_unused}
use Rattle.read_nth.proofs.Passing.{second_read}
use Rattle.read_nth.proofs.debug.nth_local.Goals as goal

pub pass_locals-requires : goal.pass_locals-requires
pass_locals-requires c = room_unused _

pub returns : goal.returns
returns c = let a = c.args in
    second_read (exact_many a.entry (exact_local a.max_string_bytes)) (raw_local a.max_string_bytes) local_result a.s.now a.cursor.at _ (sym c.in_ok-next.was ∙ c.pass_locals.ensures.value) c.read_local.ensures
