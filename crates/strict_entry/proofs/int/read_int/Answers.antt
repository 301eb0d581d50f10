-- `strict_entry::int::read_int` meets its contract: by what reading the number showed (`Ints.antt`). Assumes nothing.
use mathlib.Core.Path.{sym, ◌∙◌}
use native.Mathlib.Omega.{arith}
use Rattle.strict_entry.proofs.Ints.{int_small, int-large}
use Rattle.strict_entry.proofs.int.read_int.Goals as goal

pub returns-then-value-ge2147483520 : goal.returns-then-value-ge2147483520
returns-then-value-ge2147483520 c = let a = c.args in int-large a.s.now a.cursor.at (sym c.in_ok-value.was ∙ c.read_value.ensures) (omega arith)

pub returns : goal.returns
returns c = let a = c.args in int_small a.s.now a.cursor.at (sym c.in_ok-value.was ∙ c.read_value.ensures) (omega arith)
