-- `line_lookup::deltas::line_from` meets its contract: call by call (`Sums.antt`). Assumes nothing.
use mathlib.Core.Path.{◌∙◌, ap}
use Prim.Native.Nat.{◌^◌, ◌≤◌}
use native.Mathlib.Omega.{arith}
use lib.IntN.{pos}
use lib.ListN.{drop}
use mir.Syntax.{w64}
use mir.Facts.{to_z_pos, to_z-of_z}
use Rattle.line_lookup.specs.Lines.{raised}
use Rattle.line_lookup.specs.Inner.Scan.{summed}
use Rattle.line_lookup.proofs.Sums.{none_from, some_from}
use Rattle.line_lookup.proofs.deltas.line_from.Goals as goal

pub returns-then-deltas-eq0 : goal.returns-then-deltas-eq0
returns-then-deltas-eq0 c = let a = c.args in none_from a.scan a.deltas.now c.if-deltas-eq0.true

pub overflow_cast-start : goal.overflow_cast-start
overflow_cast-start c = let low = c.requires.1 in rw c.start_in-start.ensures (record { sfits = omega arith })

pub add_deltas-requires : goal.add_deltas-requires
add_deltas-requires c = let low : c.start_in-start.result.line ≤ 2 ^ 62 = rw c.start_in-start.ensures c.requires.1 in
    (c.requires.0, rw (to_z_pos w64 {n = c.start_in-start.result.line} (omega arith)) low)

pub returns : goal.returns
returns c = let ds = c.args.deltas.now in
    let low : c.start_in-start.result.line ≤ 2 ^ 62 = rw c.start_in-start.ensures c.requires.1 in
    c.raise.ensures
    ∙ ap raised (to_z-of_z {w = w64} (record { sfits = c.add_deltas.type_inv }) ∙ c.add_deltas.ensures ∙ ap (λ z. summed z (drop c.start_in-start.result.pc ds)) (to_z_pos w64 {n = c.start_in-start.result.line} (omega arith)) ∙ ap (λ a. summed (pos a.line) (drop a.pc ds)) c.start_in-start.ensures)
    ∙ some_from c.args.scan ds c.if-deltas-eq0.false
