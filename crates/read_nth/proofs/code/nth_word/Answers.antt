-- `read_nth::code::nth_word` meets its contract: those before the entry are passed over, then it is read (`Passing.antt`). Assumes nothing.
use mathlib.Core.Path.{sym, ◌∙◌}
use Rattle.format.specs.ReadFields.{field}
use Rattle.format.proofs.Exact.{exact_many}
use Rattle.format.proofs.ExactFields.{exact_field}
use Rattle.read_field.specs.Shown.{shown}
use Rattle.read_nth.proofs.Passing.{second_read}
use Rattle.read_nth.proofs.code.nth_word.Goals as goal

pub returns : goal.returns
returns c = let a = c.args in
    second_read (exact_many a.entry (exact_field 4)) (field 4) shown a.s.now a.cursor.at _ (sym c.in_ok-next.was ∙ c.skip_words.ensures) c.read_u32_le.ensures
