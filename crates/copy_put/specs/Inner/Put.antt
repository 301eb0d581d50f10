-- What a writer does that puts bytes into lent memory if they have room there.
--     Put b at l behind l'           the bytes b, at place `at` of l: `behind` is the place behind them, and l' what then stands there.
--                                    Nothing is said of places above 2^32, where no copy of a chunk ends.
--     Puts bytes o at l next ..      where o was read, the bytes of its value; `next` is the place behind it in the chunk
--     PutsAll bytes o at l ..        the same of a list, with its count
use Rattle.std.specs.Prelude.{◌≡◌, List, ℕ, ◌+◌, ◌≤◌, length}
use Rattle.format.specs.Form.{Bytes}
use Rattle.format.specs.Read.{Read, ok}
use Rattle.format.specs.Copy.{list_bytes}
use Rattle.slice.specs.Inner.Splice.{splice}

pub record Put (b : Bytes) (at : ℕ) (l : Bytes) (behind : ℕ) (l' : Bytes) : Type 0 where
  pub long : length l' ≡ length l
  pub reach : at + length b ≤ 4294967296 → behind ≡ at + length b
  pub wrote : at + length b ≤ 4294967296 → at + length b ≤ length l → l' ≡ splice at b l

pub record Puts {A : Type 0} (bytes : A → Bytes) (o : Read A) (at : ℕ) (l : Bytes) (next behind : ℕ) (l' : Bytes) : Type 0 where
  pub put : (x : A) (to : ℕ) (rest : Bytes) → o ≡ ok x to rest → (next ≡ to) × Put (bytes x) at l behind l'

-- where a list was read, its entries behind their count
pub record PutsAll {A : Type 0} (bytes : A → Bytes) (o : Read (List A)) (at : ℕ) (l : Bytes) (behind : ℕ) (l' : Bytes) : Type 0 where
  pub put : (xs : List A) (to : ℕ) (rest : Bytes) → o ≡ ok xs to rest → Put (list_bytes bytes xs) at l behind l'
