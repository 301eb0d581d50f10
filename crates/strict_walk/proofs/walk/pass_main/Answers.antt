-- `strict_walk::walk::pass_main` meets its contract: a list of one function (read_walk's `Main.antt`). Assumes nothing.
use mathlib.Core.Path.{◌∙◌, ap}
use native.Mathlib.Omega.{arith}
use lib.ListN.{drop}
use Rattle.format_strict.specs.ReadStrict.{strict_function}
use Rattle.read_walk.specs.Inner.Skim.{skim_result}
use Rattle.read_walk.proofs.Main.{alone_by}
use Rattle.strict_walk.proofs.walk.pass_main.Goals as goal

pub overflow_add-left : goal.overflow_add-left
overflow_add-left c = omega (arith, c.requires.1)

pub pass_functions-requires : goal.pass_functions-requires
pass_functions-requires c = c.requires.0

pub returns : goal.returns
returns c = λ w none number instructions.
    let a = c.args in
    c.pass_functions.ensures w number instructions ∙ ap (skim_result w) (alone_by (strict_function a.limits) a.limits a.left w a.from.next.at (drop a.from.next.at a.s.now) none)
