-- The instructions of functions that stand one after the other, counted.
-- Assumes nothing.
use mathlib.Core.Path.{◌≡◌}
use mathlib.Core.List.{List, [], ◌∷◌, ◌++◌}
use Prim.Native.Nat.{◌+◌}
use native.Mathlib.Omega.{arith}
use Rattle.format.specs.Reading.{Prototype}
use Rattle.format.specs.GrammarChunk.{instructions_of}

pub instructions-append : (ps qs : List Prototype) → instructions_of (ps ++ qs) ≡ instructions_of ps + instructions_of qs
instructions-append [] qs = omega arith
instructions-append (p ∷ ps) qs = rw (instructions-append ps qs) (omega arith)
