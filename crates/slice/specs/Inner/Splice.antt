-- What a writer leaves of lent memory.
--     splice at xs old    what was there, with xs written over it from place `at` on
use Rattle.std.specs.Prelude.{List, ◌++◌, ℕ, ◌+◌, length, take, drop}

unfoldable pub splice : ℕ → List ℕ → List ℕ → List ℕ
splice at xs old = take at old ++ (xs ++ drop (at + length xs) old)
