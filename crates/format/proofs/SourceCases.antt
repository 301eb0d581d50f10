-- The source of each function of the chunk of Distinct.antt (01, 'chunk.rs'): an absent one is the source of the function around it, with its place. Antt computes the list.
--     sources_hold     main has one, at 33, which 1, 2 and 3 take over; 4 has its own, at 82, which the four in it take over
-- Told apart: main's source for every function without one, an inherited source that is absent, that of the function before.
-- Assumes nothing.
use mathlib.Core.Path.{◌≡◌, refl}
use mathlib.Core.List.{List, [], ◌∷◌, map}
use mathlib.Core.Option
use mathlib.Core.Option.{Option, some}
use Prim.Native.Nat.{ℕ}
use Rattle.format.specs.GrammarFields.{LuaString}
use Rattle.format.specs.Limits.{ceilings}
use Rattle.format.specs.Reading.{Prototype}
use Rattle.format.specs.ReadChunk.{body, function, Outcome, shown, refusal, read}
use Rattle.format.proofs.Distinct.{distinct}

-- the places of the sources
places : Outcome → List (Option ℕ)
places (shown r) = map (λ (p : Prototype). Option.map (λ (t : LuaString). t.place) p.source_name) r.functions
places (refusal q) = []

sources_hold : places (read ceilings distinct) ≡ map some (33 ∷ 33 ∷ 33 ∷ 33 ∷ 82 ∷ 82 ∷ 82 ∷ 82 ∷ 82 ∷ [])
unfolding places distinct read body function
sources_hold = refl
