-- What is put at the start of a lent tail is put behind what stands before it. The tail begins at the place or, if that is outside, at the end.
-- Assumes nothing.
use mathlib.Core.Path.{◌≡◌, refl, ◌∙◌, ap}
use mathlib.Core.Bool.{Bool, true, false, cond}
use Prim.Native.Nat.{ℕ, ◌+◌, ◌-◌, ◌≤◌}
use native.Mathlib.Omega.{arith}
use borrow.Author.Tests.{leb-true, le-leb}
use borrow.Rule.Slice.PartMut.{put_mid}
use lib.Dec.{leb}
use lib.ListN.{length, take, drop}
use Rattle.format.specs.Form.{Bytes}
use Rattle.slice.specs.Inner.Splice.{splice}
use Rattle.slice.proofs.Tails.{part_length, put-length, splice-behind}
use Rattle.copy_put.specs.Inner.Put.{Put}

pub tail-inside : (at n from : ℕ) → from ≡ cond (leb at n) at n → from ≤ n
tail-inside at n from e = by (leb at n) refl
  where
    by : (b : Bool) → leb at n ≡ b → from ≤ n
    by true h = let k = leb-true at n h in let f : from ≡ at = e ∙ rw h in omega arith
    by false h = let f : from ≡ n = e ∙ rw h in omega arith

pub part_kept : (at from : ℕ) (l z : Bytes) → from ≡ cond (leb at (length l)) at (length l) → length z ≡ length (take (length l - from) (drop from l)) → length (put_mid from (length l - from) l z) ≡ length l
part_kept at from l z begins e = put-length from l z (tail-inside at (length l) from begins) (e ∙ part_length from l)

pub put_part : (b : Bytes) (at from : ℕ) (l : Bytes) (len after : ℕ) (z : Bytes) → from ≡ cond (leb at (length l)) at (length l) → Put b 0 (take (length l - from) (drop from l)) len z → (at + len ≤ 4294967296 → after ≡ at + len)
    → Put b at l after (put_mid from (length l - from) l z)
put_part b at from l len after z begins p sum = record {
  long = part_kept at from l z begins p.long;
  reach = λ small. let e = p.reach (omega arith) in sum (omega arith) ∙ omega arith;
  wrote = λ small fits.
      let here : from ≡ at = begins ∙ rw (le-leb at (length l) (omega arith)) in
      let size = part_length from l in
      splice-behind from b l z (omega arith) (p.wrote (omega arith) (omega arith)) ∙ ap (λ k. splice k b l) here;
}
