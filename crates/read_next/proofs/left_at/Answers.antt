-- `read_next::left_at` meets its contract. Assumes nothing.
use mathlib.Core.Path.{sym}
use lib.ListN.{get_or-eq_default}
use native.Mathlib.Omega.{arith}
use Rattle.read_next.proofs.left_at.Goals as goal

pub returns : goal.returns
returns c = sym (get_or-eq_default c.args.left.now 0 (omega arith))
