-- The entries of a list, by a call at a place: the first at the list's place, each further one at the place that the call before gave as the one behind.
--     behind a               the place behind, in an answer of such a call: its last number
--     stepped call i place   where i such steps lead
--     entries_shown          of a list that is read at its place, the call shows at the place to which i steps lead what it shows of entry i
-- Assumes nothing.
use mathlib.Core.Path.{◌≡◌, refl, sym, ◌∙◌, ap, subst}
use mathlib.Core.List.{List, [], ◌∷◌, ◌++◌}
use mathlib.Core.Option.{some}
use Prim.Native.Nat.{ℕ, zero, suc, ◌+◌, ◌*◌, ◌≤◌}
use native.Mathlib.Omega.{arith}
use lib.ListN.{length, take, drop, get_elem?}
use Rattle.format.specs.Form.{Bytes, Form}
use Rattle.format.specs.Read.{Read, ok, refused, Reader, next, ◌>>=◌, give, run, many}
use Rattle.format.specs.ReadFields.{byte}
use Rattle.format.proofs.Exact.{Exact, never}
use Rattle.format.proofs.Left.{left}
use Rattle.format.proofs.Located.{Found}
use Rattle.format.proofs.Steps.{run_was, field_enough}
use Rattle.c_boundary.specs.Status.{Answer, done, refuses}

-- ## Steps
abbrev pub last_of : List ℕ → ℕ
last_of [] = 0
last_of (x ∷ []) = x
last_of (x ∷ y ∷ l) = last_of (y ∷ l)

pub last-of : (l : List ℕ) (x : ℕ) → last_of (l ++ (x ∷ [])) ≡ x
last-of [] x = refl
last-of (y ∷ []) x = refl
last-of (y ∷ z ∷ l) x = last-of (z ∷ l) x

abbrev pub behind : Answer → ℕ
behind (done l) = last_of l
behind (refuses q) = 0

abbrev pub stepped : (ℕ → Answer) → ℕ → ℕ → ℕ
stepped call zero place = place
stepped call (suc i) place = stepped call i (behind (call place))

-- ## Entries
-- items of which there is a first
record First {A : Type 0} (s : Bytes) (r : Reader A) (n at : ℕ) (xs : List A) : Type 0 where
  head : A
  mid : ℕ
  rest : Bytes
  tail : List A
  first : r at (drop at s) ≡ ok head mid rest
  others : Found s (many n r) mid tail
  is : xs ≡ head ∷ tail

first_of : {A : Type 0} {s : Bytes} {r : Reader A} {F : Form A} → Exact r F → (n : ℕ) {at : ℕ} {xs : List A} → Found s (many (suc n) r) at xs → First s r n at xs
first_of {A} {s} {r} exact n {at} {xs} f = one (r at (drop at s)) refl f.is
  where
    two : (y : A) (mid : ℕ) (t : Bytes) → r at (drop at s) ≡ ok y mid t → (o : Read (List A)) → many n r mid (drop mid s) ≡ o → next o (λ ys. give (y ∷ ys)) ≡ ok xs f.to f.rest → First s r n at xs
    two y mid t p (ok ys to b) q e = record { head = y; mid = mid; rest = t; tail = ys; first = p; others = record { to = to; rest = b; is = q }; is = cc }
    two y mid t p (refused z) q e = absurd (never e)

    one : (o : Read A) → r at (drop at s) ≡ o → next o (λ y. many n r >>= λ ys. give (y ∷ ys)) ≡ ok xs f.to f.rest → First s r n at xs
    one (ok y mid t) p e = two y mid t p (many n r mid (drop mid s)) refl (subst (λ t. next (many n r mid t) (λ ys. give (y ∷ ys)) ≡ ok xs f.to f.rest) (left exact s at p) e)
    one (refused z) p e = absurd (never e)

module _ {A : Type 0} (s : Bytes) (r : Reader A) {F : Form A} (exact : Exact r F) (call : ℕ → Answer) (Shown : A → Answer → Type 0)
    (shows : (at : ℕ) (x : A) (to : ℕ) (rest : Bytes) → r at (drop at s) ≡ ok x to rest → Shown x (call at) × (behind (call at) ≡ to)) where
  pub entries_shown : (n : ℕ) {at : ℕ} {xs : List A} → Found s (many n r) at xs → (i : ℕ) {x : A} → get_elem? xs i ≡ some x → Shown x (call (stepped call i at))
  entries_shown zero {at} {xs} f i there = absurd (let e = f.is in let none_of : xs ≡ [] = cc in let bad = rw none_of at there in let z : ◌≡◌ {A = ℕ} 0 1 = cc in omega arith)
  entries_shown (suc n) {at} f zero {x} there =
      let p = first_of exact n f in
      let same : p.head ≡ x = let e = p.is in let t = rw e at there in cc in
      subst (λ y. Shown y (call at)) same (shows at p.head p.mid p.rest p.first).0
  entries_shown (suc n) {at} f (suc i) {x} there =
      let p = first_of exact n f in
      let later : get_elem? p.tail i ≡ some x = rw p.is at there in
      subst (λ place. Shown x (call (stepped call i place))) (sym (shows at p.head p.mid p.rest p.first).1) (entries_shown n p.others i later)

-- ## A run of bytes is so many bytes
bytes_of : (n at : ℕ) (t : Bytes) → n ≤ length t → many n byte at t ≡ ok (take n t) (at + n) (drop n t)
bytes_of zero at t h = ap (λ k. ok [] k t) (let e : at ≡ at + 0 = omega arith in e)
bytes_of (suc n) at [] h = absurd (omega (arith, h))
bytes_of (suc n) at (x ∷ t) h =
    let one : byte at (x ∷ t) ≡ ok (x + 256 * 0) (at + 1) t = field_enough 1 at (x ∷ t) (omega arith) in
    let value : x + 256 * 0 ≡ x = omega arith in
    let place : at + 1 + n ≡ at + suc n = omega arith in
    ap (λ o. next o (λ y. many n byte >>= λ ys. give (y ∷ ys))) (one ∙ ap (λ v. ok v (at + 1) t) value)
    ∙ ap (λ o. next o (λ ys. give (x ∷ ys))) (bytes_of n (at + 1) t (omega arith))
    ∙ ap (λ k. ok (x ∷ take n t) k (drop n t)) place

pub run-bytes : {s : Bytes} (n : ℕ) {at : ℕ} {b : Bytes} → Found s (run n) at b → Found s (many n byte) at b
run-bytes {s} n {at} f =
    let was = run_was n at (drop at s) f.is in
    record { to = at + n; rest = drop n (drop at s); is = bytes_of n at (drop at s) was.0 ∙ ap (λ b. ok b (at + n) (drop n (drop at s))) was.1 }
