-- The order of the index's fourteen numbers and of its rows (01 'Calls'; 02, item 2), on a chunk whose function 4 has numbers that all differ (crates/format/proofs/Distinct.antt); antt computes both.
--     row_holds        start, end, depth, parent; instructions, constants, upvalues, nested functions, deltas, anchors, locals, upvalue names; where the instructions and the constants begin
--     index_holds      the whole index, from the bytes; what is written where there is room for it, and for one number more or less
-- Told apart: any two columns exchanged, rows in another order, the parent counted from 1, an end before the last byte, a row of space too few taken.
-- Assumes nothing.
use Rattle.std.specs.Prelude.{Result, Ok, Err}
use Rattle.format.specs.declared.refusal.Refusal.{Refusal}
use mathlib.Core.Path.{◌≡◌, refl}
use mathlib.Core.List.{List, [], ◌∷◌, ◌++◌, map}
use Prim.Native.Nat.{ℕ, ◌+◌}
use lib.ListN.{replicate}
use Rattle.format.specs.declared.refusal.Refusal.TheVariants.{LentSpace}
use Rattle.format.specs.Limits.{ceilings}
use Rattle.format.specs.ReadChunk.{body, function, Outcome, read}
use Rattle.format.proofs.Distinct.{distinct, fourth}
use Rattle.index.specs.Index.{index_row, shown_index, index_written}

row_holds : index_row fourth ≡ 81 ∷ 300 ∷ 2 ∷ 3 ∷ 5 ∷ 7 ∷ 6 ∷ 4 ∷ 8 ∷ 9 ∷ 10 ∷ 11 ∷ 100 ∷ 121 ∷ []
unfolding fourth
row_holds = refl

-- ## The chunk
-- behind the counts of nested functions; before its lists such a function has six bytes, and its counts one each
abbrev without : ℕ → List ℕ
without start = replicate 4 0 ++ ((start + 7) ∷ (start + 8) ∷ [])

-- a function without entries
abbrev empty : ℕ → ℕ → ℕ → ℕ → List ℕ
empty start end depth parent = start ∷ end ∷ depth ∷ parent ∷ replicate 4 0 ++ without start

rows : List ℕ
rows =
    -- main's source has a byte
    (32 ∷ 308 ∷ 0 ∷ 0 ∷ 0 ∷ 0 ∷ 0 ∷ 2 ∷ without 33)
    ++ (43 ∷ 71 ∷ 1 ∷ 0 ∷ 0 ∷ 0 ∷ 0 ∷ 1 ∷ without 43)
    ++ empty 53 67 2 1
    ++ (71 ∷ 304 ∷ 1 ∷ 0 ∷ 0 ∷ 0 ∷ 0 ∷ 1 ∷ without 71)
    ++ (81 ∷ 300 ∷ 2 ∷ 3 ∷ 5 ∷ 7 ∷ 6 ∷ 4 ∷ 8 ∷ 9 ∷ 10 ∷ 11 ∷ 100 ∷ 121 ∷ [])
    ++ empty 171 185 3 4
    ++ empty 185 199 3 4
    ++ empty 199 213 3 4
    ++ empty 213 227 3 4

abbrev chunk : Outcome
chunk = read ceilings distinct

-- how many numbers are lent, the answer, and what then stands there
cases : List (ℕ × (Result ℕ Refusal) × List ℕ)
unfolding rows
cases =
    (126, Ok 9, rows)
    ∷ (127, Ok 9, rows ++ (77 ∷ []))
    ∷ (125, Err LentSpace, replicate 125 77)
    ∷ []

answers_hold : map (λ c. shown_index c.0 chunk) cases ≡ map (λ c. c.1) cases
unfolding rows cases distinct read body function
answers_hold = refl

index_holds : map (λ c. index_written (replicate c.0 77) chunk) cases ≡ map (λ c. c.2) cases
unfolding rows cases distinct read body function
index_holds = refl
