-- Parts of two lists.
--     Alike want from to got n      the numbers of `want` from one place to another are the first n of `got`
--     Fitting want from to got n    both parts end before their lists do
use Rattle.std.specs.Prelude.{◌≡◌, List, ℕ, ◌-◌, ◌≤◌, ◌<◌, length, take, drop}

abbrev pub Alike : List ℕ → ℕ → ℕ → List ℕ → ℕ → Type 0
Alike want from to got n = take (to - from) (drop from want) ≡ take n got

abbrev pub Fitting : List ℕ → ℕ → ℕ → List ℕ → ℕ → Type 0
Fitting want from to got n = (from ≤ to) × (to < length want) × (n < length got)
