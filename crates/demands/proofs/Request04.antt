-- REQUEST 4 (02, item 4): the length of a number from a table. Each sentence of it once.
--     table_of_65          "A table of 65 lengths"
--     looked_up            "looked up by the count of leading zeros": there it has the length of the shortest spelling, for every number of 64 bits
--     none_idle            and each of the 65 is the length of some number: 0 to 64 leading zeros there are
--                          (That the code's table is this list is the contract of `length_at`, crates/copy_put/src/shortest.rt: it is exported to nobody.)
--     varint_len           "What the length is promised to be stays the same": all that `varint_len` promises, of any number, is as it was.
--                          "and no caller changes": `put_varint` and all above it are as they were, code, promises and proofs
-- Assumes nothing.
use mathlib.Core.Path.{◌≡◌, refl, sym}
use mathlib.Core.List.{[], ◌∷◌}
use mathlib.Core.Option.{some}
use Prim.Native.Nat.{ℕ, ◌-◌, ◌^◌, ◌≤◌, ◌<◌}
use native.Mathlib.Nat.{pow-le-pow_right}
use native.Mathlib.Omega.{arith}
use lib.Count.{count_leading_zeros, leading_unique}
use lib.Dec.{lit<}
use lib.ListN.{length, get_elem?}
use Rattle.format.specs.Shortest.{shortest}
use Rattle.copy_put.specs.Lengths.{lengths}
use Rattle.copy_put.proofs.Table.{table_rule}
use Rattle.copy_put.specs.contracts.shortest.varint_len as varint-len-contract
use Rattle.copy_put.proofs.shortest.varint_len as varint-len-call
use Rattle.demands.proofs.Promise.{Promise}

-- ## The table
pub table_of_65 : length lengths ≡ 65
unfolding lengths
table_of_65 = refl

pub looked_up : (v : ℕ) → v < 2 ^ 64 → get_elem? lengths (count_leading_zeros 64 v) ≡ some (length (shortest v))
looked_up = table_rule

-- the largest number with so many leading zeros has a bit 1 everywhere behind them
pub none_idle : (zeros : ℕ) → zeros ≤ 64 → (v : ℕ) × (v < 2 ^ 64) × (count_leading_zeros 64 v ≡ zeros)
none_idle zeros h =
    let bits = 64 - zeros in
    let one : 2 ^ 0 ≤ 2 ^ bits = pow-le-pow_right {n = 2} (lit< tt) {i = 0} {j = bits} (omega arith) in
    let most : 2 ^ bits ≤ 2 ^ 64 = pow-le-pow_right {n = 2} (lit< tt) {i = bits} {j = 64} (omega arith) in
    (2 ^ bits - 1, omega (arith, one, most), sym (leading_unique 64 (2 ^ bits - 1) zeros bits (omega arith) (omega (arith, one)) (omega (arith, one))))

-- ## The code
pub varint_len : Promise varint-len-contract.ended varint-len-call.Symbol.code varint-len-call.Symbol.name (λ _ v r.
    (r ≡ length (shortest v))
    ∷ [])
varint_len _ = varint-len-call.Met.met
