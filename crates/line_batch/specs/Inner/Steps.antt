-- The code's walk as a step of `Walk.antt`.
use Rattle.std.specs.Prelude.{List, [], ◌∷◌, ℕ, ◌^◌, ◌≤◌}
use Rattle.format.specs.Limits.{MOST}
use Rattle.format.specs.Form.{Bytes}
use Rattle.line_batch.specs.declared.walk.Walk.{Walk}
use Rattle.line_batch.specs.Inner.Anchors.{anchors_of}
use Rattle.line_batch.specs.Inner.Walk.{Step, forward}

abbrev pub step_of : Bytes → Walk → Step
step_of s w = record { left = anchors_of s w.rest; at = w.at; from = w.from; sum = w.sum; read = w.read }

-- no sum on the way is too large: the line of each pc's base, and the number of deltas read by then
abbrev pub Writable : Bytes → Step → List ℕ → Type 0
Writable deltas z [] = Unit {0}
Writable deltas z (pc ∷ pcs) = (z.read ≤ MOST) × ((forward deltas pc z).from ≤ 2 ^ 62) × ((forward deltas pc z).read ≤ MOST) × Writable deltas (forward deltas pc z) pcs
