-- What the code computes of one, four and eight bytes is the field that they spell: by the laws over any width.
-- Assumes nothing.
use mathlib.Core.Path.{◌≡◌}
use Prim.Native.Nat.{ℕ, ◌+◌, ◌*◌, ◌≤◌, ◌<◌}
use native.Mathlib.Omega.{arith}
use lib.ListN.{length, take, drop, get_or}
use Rattle.format.specs.Form.{Bytes}
use Rattle.format.specs.GrammarFields.{little}
use Rattle.format.proofs.Steps.{little-next, little_split}

module _ (at : ℕ) (s : Bytes) where
  pub one : at < length s → little (take 1 (drop at s)) ≡ get_or s at 0
  one h = rw (little-next 0 at s h) (omega arith)

  pub four : (a b c d : ℕ) → at + 4 ≤ length s → a ≡ get_or s at 0 → b ≡ get_or s (at + 1) 0 → c ≡ get_or s (at + 2) 0 → d ≡ get_or s (at + 3) 0
      → a + b * 256 + c * 65536 + d * 16777216 ≡ little (take 4 (drop at s))
  four a b c d h ea eb ec ed =
      let two : at + 1 + 1 ≡ at + 2 = omega arith in
      let three : at + 2 + 1 ≡ at + 3 = omega arith in
      rw (little-next 3 at s (omega arith), little-next 2 (at + 1) s (omega arith), two, little-next 1 (at + 2) s (omega arith), three, little-next 0 (at + 3) s (omega arith), ← ea, ← eb, ← ec, ← ed) (omega arith)

  pub eight : (low high : ℕ) → at + 8 ≤ length s → low ≡ little (take 4 (drop at s)) → high ≡ little (take 4 (drop (at + 4) s)) → low + high * 4294967296 ≡ little (take 8 (drop at s))
  eight low high h el eh = rw (little_split 4 4 at s (omega arith), ← el, ← eh) (omega arith)
