-- A number's shortest spelling: what the archive copy writes (`write_varint_lua54`; ldump.c's `dumpSize`).
--     groups_of f n     the groups of n in base 128, high group first, none for 0; f bounds how many
--     shortest n       the groups above the last, and the last with 128 added
use Rattle.std.specs.Prelude.{List, [], ◌∷◌, ◌++◌, ℕ, zero, suc, ◌+◌, ◌/◌, ◌%◌}
use Rattle.format.specs.Form.{Bytes}

abbrev pub groups_of : ℕ → ℕ → List ℕ
groups_of zero n = []
groups_of (suc f) zero = []
groups_of (suc f) (suc n) = groups_of f (suc n / 128) ++ suc n % 128 ∷ []

unfoldable pub shortest : ℕ → Bytes
shortest n = groups_of n (n / 128) ++ (128 + n % 128) ∷ []
