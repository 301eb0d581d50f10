-- `read_walk::walk::skim_main` meets its contract: a list of one function (`Main.antt`, `Spelt.antt`). Assumes nothing.
use mathlib.Core.Path.{sym, ◌∙◌, ap}
use native.Mathlib.Omega.{arith}
use lib.ListN.{drop}
use Rattle.format_spelling.proofs.Tallies.{adds_as, adds-of}
use Rattle.read_walk.specs.Inner.Skim.{skim_result}
use Rattle.read_walk.proofs.Main.{main_alone}
use Rattle.read_walk.proofs.Sources.{none-at-end}
use Rattle.read_walk.proofs.Spelt.{main-spelt}
use Rattle.read_walk.proofs.walk.skim_main.Goals as goal

pub overflow_add-left : goal.overflow_add-left
overflow_add-left c = omega (arith, c.requires.1)

pub skim_functions-requires : goal.skim_functions-requires
skim_functions-requires c = (c.requires.0, c.requires.2)

pub returns : goal.returns
returns c =
    let a = c.args in
    let at = a.from.next.at in
    let s = drop at a.s.now in record { value = (λ w none n i. c.skim_functions.ensures.value w n i ∙ ap (skim_result w) (main_alone a.limits a.left w at s none)); adds = λ w none missing n i. adds-of (main_alone a.limits a.left w at s none) (adds_as (main-spelt a.limits a.left w at s) (c.skim_functions.ensures.adds w n i (missing ∙ sym (none-at-end a.limits.max_string_bytes a.s.now)))) }
