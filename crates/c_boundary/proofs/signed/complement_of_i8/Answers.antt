-- `c_boundary::signed::complement_of_i8` meets its contract: by the wider number (`Complement.antt`). Assumes nothing.
use mathlib.Core.Path.{◌∙◌, ap}
use native.Mathlib.Omega.{arith}
use mir.Syntax.{w8}
use Rattle.c_boundary.specs.Status.{complement}
use Rattle.c_boundary.proofs.Complement.{widened_fits, widened_is}
use Rattle.c_boundary.proofs.signed.complement_of_i8.Goals as goal

pub overflow_cast-z : goal.overflow_cast-z
overflow_cast-z c = let f = c.ranges.z.sfits in widened_fits w8 c.args.z c.ranges.z (omega arith)

pub returns : goal.returns
returns c = let f = c.ranges.z.sfits in c.complement_of.ensures ∙ ap complement (widened_is w8 c.args.z c.ranges.z (omega arith))
