-- `read_nth::debug::nth_name` meets its contract: those before the entry are passed over, then it is read (`Passing.antt`). Assumes nothing.
use mathlib.Core.Path.{sym, ◌∙◌}
use Rattle.format.specs.ReadFields.{string}
use Rattle.format.proofs.Exact.{exact_many}
use Rattle.format.proofs.ExactFields.{exact_string}
use Rattle.read_field.specs.Shown.{string_result}
use Rattle.format_spelling.proofs.Tallies.{room_unused}
use Rattle.read_nth.proofs.Passing.{second_read}
use Rattle.read_nth.proofs.debug.nth_name.Goals as goal

pub pass_strings-requires : goal.pass_strings-requires
pass_strings-requires c = room_unused _

pub returns : goal.returns
returns c = let a = c.args in
    second_read (exact_many a.entry (exact_string a.max_string_bytes)) (string a.max_string_bytes) string_result a.s.now a.cursor.at _ (sym c.in_ok-next.was ∙ c.pass_strings.ensures.value) c.read_string_lua54.ensures
