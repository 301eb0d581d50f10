-- The loop of `store_groups`: it stores the groups of a number from the last to the first.
--     Stored           the invariant: the groups of what is left, then what stands from place i on, are the whole; before `at` nothing has changed
--     stored-none, stored_next, stored-all     where the loop begins; a turn; where it ends
--     number-stored    the last byte stored behind the groups: the shortest spelling
-- Assumes nothing.
use mathlib.Core.Path.{◌≡◌, refl, sym, ◌∙◌, ap, subst}
use mathlib.Core.List.{List, [], ◌∷◌, ◌++◌, append_assoc}
use Prim.Native.Nat.{ℕ, zero, suc, ◌+◌, ◌-◌, ◌/◌, ◌%◌, ◌≤◌, ◌<◌}
use native.Mathlib.Nat.{add_comm}
use native.Mathlib.Numerals.{add-one}
use native.Mathlib.Omega.{arith}
use lib.ListN.{length, take, drop, set, length-append, length-set, take-append-drop}
use lib.Seq.{length-take-le, set_split, drop_at, take-set-le}
use Rattle.format.specs.Shortest.{groups_of, shortest}
use Rattle.slice.specs.Inner.Splice.{splice}
use Rattle.slice.proofs.Splices.{splice-length, splice_set, splice_then}
use Rattle.copy_put.specs.Inner.Groups.{groups}

length-groups : (n v : ℕ) → length (groups n v) ≡ n
unfolding groups
length-groups zero v = refl
length-groups (suc n) v = length-append (groups n (v / 128)) (v % 128 ∷ []) ∙ add-one (length (groups n (v / 128))) ∙ ap suc (length-groups n (v / 128))

drop_set_here : (k a : ℕ) (l : List ℕ) → k < length l → drop k (set l k a) ≡ a ∷ drop (suc k) l
drop_set_here k a l h = ap (drop k) (set_split l k a h) ∙ drop_at (take k l) (a ∷ drop (suc k) l) k (length-take-le k l (omega arith))

pub record Stored (at n v : ℕ) (l : List ℕ) (i rest : ℕ) (out : List ℕ) : Type 0 where
  pub low : at ≤ i
  pub high : i ≤ at + n
  pub same : length out ≡ length l
  pub before : take at out ≡ take at l
  pub behind : groups (i - at) rest ++ drop i out ≡ groups n v ++ drop (at + n) l

pub stored-none : (at n v : ℕ) (l : List ℕ) → Stored at n v l (at + n) v l
stored-none at n v l =
    let e : at + n - at ≡ n = omega arith in
    record { low = omega arith; high = omega arith; same = refl; before = refl; behind = rw e }

pub stored_next : (at n v : ℕ) (l : List ℕ) (i rest : ℕ) (out : List ℕ) → at + n ≤ length l → Stored at n v l i rest out → at < i → Stored at n v l (i - 1) (rest / 128) (set out (i - 1) (rest % 128))
unfolding groups
stored_next at n v l zero rest out fits s more = absurd (omega arith)
stored_next at n v l (suc k) rest out fits s more =
    let e : suc k - 1 ≡ k = omega arith in
    let f : suc k - at ≡ suc (k - at) = omega arith in
    let inside : k < length out = omega (arith, s.same) in
    rw e (record {
      low = omega arith;
      high = omega arith;
      same = length-set out k (rest % 128) ∙ s.same;
      before = take-set-le at out k (rest % 128) (omega arith) ∙ s.before;
      behind =
          ap (λ (x : List ℕ). groups (k - at) (rest / 128) ++ x) (drop_set_here k (rest % 128) out inside)
          ∙ sym (append_assoc (groups (k - at) (rest / 128)) (rest % 128 ∷ []) (drop (suc k) out))
          ∙ ap (λ (m : ℕ). groups m rest ++ drop (suc k) out) (sym f)
          ∙ s.behind;
    })

pub stored-all : (at n v : ℕ) (l : List ℕ) (i rest : ℕ) (out : List ℕ) → Stored at n v l i rest out → i ≤ at → out ≡ splice at (groups n v) l
unfolding splice groups
stored-all at n v l i rest out s over =
    let e : i ≡ at = omega (arith, s.low) in
    let f : i - at ≡ 0 = omega arith in
    let behind : drop at out ≡ groups n v ++ drop (at + n) l = subst (λ (k : ℕ). drop k out ≡ groups n v ++ drop (at + n) l) e (subst (λ (k : ℕ). groups k rest ++ drop i out ≡ groups n v ++ drop (at + n) l) f s.behind) in
    sym (take-append-drop at out) ∙ ap (λ (x : List ℕ). x ++ drop at out) s.before ∙ ap (λ (x : List ℕ). take at l ++ x) behind
    ∙ ap (λ (k : ℕ). take at l ++ (groups n v ++ drop (at + k) l)) (sym (length-groups n v))

-- ## The shortest spelling
groups-of : (f v : ℕ) → groups (length (groups_of f v)) v ≡ groups_of f v
unfolding groups
groups-of zero v = refl
groups-of (suc f) zero = refl
groups-of (suc f) (suc v) = rw (length-append, add-one) (ap (λ l. l ++ (suc v % 128 ∷ [])) (groups-of f (suc v / 128)))

pub size_pos : (v : ℕ) → 0 < length (shortest v)
unfolding shortest
size_pos v = rw length-append (omega arith)

as_groups : (v high : ℕ) → high ≡ length (shortest v) - 1 → groups high (v / 128) ++ ((v % 128 + 128) ∷ []) ≡ shortest v
unfolding shortest
as_groups v high e =
    let size : length (groups_of v (v / 128) ++ (128 + v % 128) ∷ []) ≡ length (groups_of v (v / 128)) + 1 = length-append (groups_of v (v / 128)) ((128 + v % 128) ∷ []) in
    let same : high ≡ length (groups_of v (v / 128)) = omega arith in
    ap (λ k. groups k (v / 128) ++ ((v % 128 + 128) ∷ [])) same ∙ ap (λ k. groups (length (groups_of v (v / 128))) (v / 128) ++ (k ∷ [])) (add_comm (v % 128) 128) ∙ ap (λ l. l ++ ((128 + v % 128) ∷ [])) (groups-of v (v / 128))

pub number-stored : (at v high : ℕ) (l out : List ℕ) → at + length (shortest v) ≤ length l → high ≡ length (shortest v) - 1 → out ≡ splice at (groups high (v / 128)) l → set out (at + high) (v % 128 + 128) ≡ splice at (shortest v) l
number-stored at v high l out fits e was =
    let some : 0 < length (shortest v) = size_pos v in
    let long : length (groups high (v / 128)) ≡ high = length-groups high (v / 128) in
    let room : at + length (groups high (v / 128)) ≤ length l = omega arith in
    let inside : at + high < length out = omega (arith, ap length was, splice-length at (groups high (v / 128)) l room) in
    splice_set (at + high) (v % 128 + 128) out inside
    ∙ ap (λ (x : List ℕ). splice (at + high) ((v % 128 + 128) ∷ []) x) was
    ∙ ap (λ (k : ℕ). splice (at + k) ((v % 128 + 128) ∷ []) (splice at (groups high (v / 128)) l)) (sym long)
    ∙ splice_then at (groups high (v / 128)) ((v % 128 + 128) ∷ []) l room
    ∙ ap (λ b. splice at b l) (as_groups v high e)
