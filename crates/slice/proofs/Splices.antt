-- Laws of `splice` (`specs/Inner/Splice.antt`).
--     splice-length    the list is as long as it was
--     splice-none      nothing is written
--     splice_front     what is written from the first place on
--     splice_set       one number is stored
--     splice_then      two pieces, the second right behind the first, are one
--     splice_mid       a part of the list is put back with other numbers in it
--     copied_next      of a piece that is copied, one number more
--     splice_four      four numbers are stored
--     splice-before    two pieces, where the first is written last
--     splice_three     three pieces, each right behind the one before
-- Assumes nothing.
use mathlib.Core.Path.{◌≡◌, sym, ◌∙◌, ap}
use mathlib.Core.List.{List, [], ◌∷◌, ◌++◌, append_assoc}
use Prim.Native.Nat.{ℕ, suc, ◌+◌, ◌-◌, ◌≤◌, ◌<◌}
use native.Mathlib.Nat.{add_assoc, add-zero, zero-add}
use native.Mathlib.Numerals.{add-one}
use native.Mathlib.Omega.{arith}
use lib.ListN.{length, take, drop, set, get_or, length-append, length-drop, take-append-drop}
use borrow.Rule.Slice.PartMut.{put_mid, Post-is}
use lib.Seq.{length-take-le, take-append_seam, drop-append-add, drop-drop, set_split, take-suc, get_or-drop, take-append-le, take-take, drop_at, sets-eq}
use Rattle.slice.specs.Inner.Splice.{splice}

pub splice-length : (at : ℕ) (s l : List ℕ) → at + length s ≤ length l → length (splice at s l) ≡ length l
unfolding splice
splice-length at s l fits = simp (length-append, length-drop) (omega (arith, length-take-le at l (omega arith)))

pub splice-none : (at : ℕ) (l : List ℕ) → splice at [] l ≡ l
unfolding splice
splice-none at l = simp add-zero (take-append-drop at l)

pub splice_front : (s l : List ℕ) → splice 0 s l ≡ s ++ drop (length s) l
unfolding splice
splice_front s l = ap (λ n. s ++ drop n l) (zero-add (length s))

pub splice_set : (k v : ℕ) (l : List ℕ) → k < length l → set l k v ≡ splice k (v ∷ []) l
unfolding splice
splice_set k v l h = set_split l k v h ∙ ap (λ (m : ℕ). take k l ++ (v ∷ drop m l)) (sym (add-one k))

-- what stands behind k elements P, with t written there
then_at : (P t D : List ℕ) (k : ℕ) → length P ≡ k → take k (P ++ D) ++ (t ++ drop (k + length t) (P ++ D)) ≡ P ++ (t ++ drop (length t) D)
then_at P t D k e = rw (← e, take-append_seam, drop-append-add)

pub splice_then : (at : ℕ) (s t l : List ℕ) → at + length s ≤ length l → splice (at + length s) t (splice at s l) ≡ splice at (s ++ t) l
unfolding splice
splice_then at s t l fits =
    ap (λ (x : List ℕ). take (at + length s) x ++ (t ++ drop (at + length s + length t) x)) (sym (append_assoc (take at l) s (drop (at + length s) l)))
    ∙ then_at (take at l ++ s) t (drop (at + length s) l) (at + length s) (length-append (take at l) s ∙ ap (λ (k : ℕ). k + length s) (length-take-le at l (omega arith)))
    ∙ simp (append_assoc, drop-drop, length-append, add_assoc)

pub copied_next : (s : List ℕ) (start w i len : ℕ) (l out : List ℕ) → len ≤ length s - start → w + len ≤ length l → i < len → out ≡ splice w (take i (drop start s)) l
    → set out (w + i) (get_or s (start + i) 0) ≡ splice w (take (i + 1) (drop start s)) l
copied_next s start w i len l out a b h e =
    let size : length (take i (drop start s)) ≡ i = length-take-le i (drop start s) (rw length-drop (omega arith)) in
    let inside : w + i < length out = rw (e, splice-length w (take i (drop start s)) l (omega arith)) (omega arith) in
    let more : take (i + 1) (drop start s) ≡ take i (drop start s) ++ (get_or s (start + i) 0 ∷ []) =
    rw (add-one, take-suc (drop start s) i 0 (rw length-drop (omega arith)), get_or-drop) in
    splice_set (w + i) (get_or s (start + i) 0) out inside
    ∙ ap (splice (w + i) (get_or s (start + i) 0 ∷ [])) e
    ∙ ap (λ k. splice (w + k) (get_or s (start + i) 0 ∷ []) (splice w (take i (drop start s)) l)) (sym size)
    ∙ splice_then w (take i (drop start s)) (get_or s (start + i) 0 ∷ []) l (omega arith)
    ∙ ap (λ t. splice w t l) (sym more)

pub splice_mid : (at end : ℕ) (xs ys l : List ℕ) → ys ≡ xs → end ≡ at + length xs → put_mid at (end - at) l ys ≡ splice at xs l
unfolding splice
splice_mid at end xs ys l same size = rw (same, Post-is at end l (omega arith), size)

pub splice_four : (at a b c d : ℕ) (l : List ℕ) → at + 4 ≤ length l → set (set (set (set l at a) (at + 1) b) (at + 2) c) (at + 3) d ≡ splice at (a ∷ b ∷ c ∷ d ∷ []) l
unfolding splice
splice_four at a b c d l fits =
    let one : at + 1 ≡ suc at = omega arith in
    let two : at + 2 ≡ suc (suc at) = omega arith in
    let three : at + 3 ≡ suc (suc (suc at)) = omega arith in
    (λ i. set (set (set (set l at a) (one i) b) (two i) c) (three i) d) ∙ sets-eq (a ∷ b ∷ c ∷ d ∷ []) l at fits ∙ append_assoc (take at l) _ _

pub splice-before : (at : ℕ) (s t l : List ℕ) → at + length s ≤ length l → splice at s (splice (at + length s) t l) ≡ splice at (s ++ t) l
unfolding splice
splice-before at s t l fits =
    let size : length (take (at + length s) l) ≡ at + length s = length-take-le (at + length s) l (omega arith) in
    let front : take at (take (at + length s) l ++ (t ++ drop (at + length s + length t) l)) ≡ take at l = take-append-le at (take (at + length s) l) _ (omega arith) ∙ take-take at (at + length s) l (omega arith) in
    let back : drop (at + length s) (take (at + length s) l ++ (t ++ drop (at + length s + length t) l)) ≡ t ++ drop (at + length s + length t) l = drop_at (take (at + length s) l) _ (at + length s) size in
    (λ i. front i ++ (s ++ back i)) ∙ simp (append_assoc, length-append, add_assoc)

-- three pieces, each right behind the one before
pub splice_three : (at b c : ℕ) (x y z l₀ l₁ l₂ l₃ : List ℕ) → l₁ ≡ splice at x l₀ → l₂ ≡ splice b y l₁ → l₃ ≡ splice c z l₂ → b ≡ at + length x → c ≡ at + length x + length y → c ≤ length l₀ → l₃ ≡ splice at (x ++ (y ++ z)) l₀
splice_three at b c x y z l₀ l₁ l₂ l₃ one two three p q fits =
    let long : length l₁ ≡ length l₀ = ap length one ∙ splice-length at x l₀ (omega arith) in
    three
    ∙ (λ i. splice (q i) z (two i))
    ∙ ap (λ k. splice (at + length x + length y) z (splice k y l₁)) p
    ∙ splice_then (at + length x) y z l₁ (omega arith)
    ∙ ap (splice (at + length x) (y ++ z)) one
    ∙ splice_then at x (y ++ z) l₀ (omega arith)
