-- A part of lent memory, from a place to its end, that is lent on and comes back (`put_mid`, as the borrow checker writes what comes back).
--     part_length      how long the part is
--     put-length       with the part put back the memory is as long as it was
--     splice-behind    a piece written at the start of the part stands behind what stands before the part
-- Assumes nothing.
use mathlib.Core.Path.{◌≡◌, ◌∙◌, ap}
use mathlib.Core.List.{List, [], ◌++◌, append-nil}
use Prim.Native.Nat.{ℕ, ◌+◌, ◌-◌, ◌≤◌}
use native.Mathlib.Nat.{zero-add}
use native.Mathlib.Omega.{arith}
use borrow.Rule.Slice.PartMut.{put_mid}
use lib.ListN.{length, take, drop, length-append, length-drop, drop_of_length-le}
use lib.Seq.{length-take-le, drop-drop, take_all}
use Rattle.slice.specs.Inner.Splice.{splice}

pub part_length : (a : ℕ) (l : List ℕ) → length (take (length l - a) (drop a l)) ≡ length l - a
part_length a l = length-take-le (length l - a) (drop a l) (omega (arith, length-drop a l))

-- behind the part there is nothing
none-behind : (a : ℕ) (l : List ℕ) → drop (length l - a) (drop a l) ≡ []
none-behind a l = drop_of_length-le (drop a l) {i = length l - a} (omega (arith, length-drop a l))

pub put-length : (a : ℕ) (l z : List ℕ) → a ≤ length l → length z ≡ length l - a → length (put_mid a (length l - a) l z) ≡ length l
put-length a l z inside e =
    let front = length-take-le a l inside in
    ap (λ (x : List ℕ). length (take a l ++ (z ++ x))) (none-behind a l) ∙ simp (length-append, append-nil) (omega arith)

pub splice-behind : (a : ℕ) (s l z : List ℕ) → a + length s ≤ length l → z ≡ splice 0 s (take (length l - a) (drop a l)) → put_mid a (length l - a) l z ≡ splice a s l
unfolding splice
splice-behind a s l z fits e =
    let whole : take (length l - a) (drop a l) ≡ drop a l = take_all (length l - a) (drop a l) (omega (arith, length-drop a l)) in
    ap (λ (x : List ℕ). take a l ++ (z ++ x)) (none-behind a l) ∙ ap (λ (x : List ℕ). take a l ++ x) (append-nil z)
    ∙ ap (λ (x : List ℕ). take a l ++ x) (e ∙ ap (λ (x : List ℕ). s ++ drop (0 + length s) x) whole)
    ∙ simp (zero-add, drop-drop)
