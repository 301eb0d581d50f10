-- A number's lowest groups in base 128.
--     groups n v   the n lowest groups of v, high group first
use Rattle.std.specs.Prelude.{List, [], ◌∷◌, ◌++◌, ℕ, zero, suc, ◌/◌, ◌%◌}

unfoldable pub groups : ℕ → ℕ → List ℕ
groups zero v = []
groups (suc n) v = groups n (v / 128) ++ (v % 128 ∷ [])
