-- What a call behind C returns: 0 where it answered, else number and place of its refusal, which can be got back.
--     zero_exactly     0 is returned exactly where the call answered
--     answered         where 0 is returned, what stands in the array is the answer
--     array_kept       where something else is, the array is as it was
--     coded-number     a refusal's number is what is returned modulo 256
--     coded-place      its place is the rest, divided by 256, less one; there is none where that rest is 0
--     coded_apart      so two refusals whose places are below 2^32 and that return the same are the same
-- Refused by these: eight bits for the number and the place without one (`coded-place`), a refusal with the number 0 or 256 (`zero-exactly`, `numbers`), an array that is touched on a refusal (`array-kept`).
-- Assumes nothing.
use Rattle.std.specs.Prelude.{Option, Some, None}
use mathlib.Core.Path.{◌≡◌, refl, sym, ◌∙◌, ap}
use mathlib.Core.Bool.{Bool, true, false, cond}
use mathlib.Core.List.{List}
use mathlib.Core.Logic.{◌↔◌}
use Prim.Native.Nat.{ℕ, ◌+◌, ◌*◌, ◌/◌, ◌%◌, ◌≤◌, ◌<◌, ◌^◌}
use native.Mathlib.Omega.{arith}
use lib.Dec.{leb}
use borrow.Author.Tests.{lt-leb}
use Rattle.format.specs.declared.refusal.Refusal.{Refusal}
use Rattle.format.specs.Refusals.{reported}
use Rattle.format.proofs.RefusalNumbers.{told_apart, numbers}
use Rattle.c_boundary.specs.Status.{with_place, coded, Answer, done, refuses, status, written}

-- ## 0 exactly where the call answered
some_number : (n : ℕ) (p : Option ℕ) → 1 ≤ n → 1 ≤ with_place n p
some_number n None h = h
some_number n (Some at) h = go (leb (2 ^ 32) at) _
  where
    go : (b : Bool) (more : ℕ) → 1 ≤ cond b n (n + more)
    go true more = h
    go false more = omega arith

abbrev pub Done : Answer → Type 0
Done (done l) = Unit {0}
Done (refuses r) = ⊥

pub zero_exactly : (a : Answer) → (status a ≡ 0) ↔ Done a
zero_exactly (done l) = (λ e. tt, λ d. refl)
zero_exactly (refuses r) = (λ e. let h = some_number (reported r).number (reported r).place (numbers r).0 in absurd (omega (arith, e)), λ d. absurd d)

pub answered : (a : Answer) (old : List ℕ) → status a ≡ 0 → a ≡ done (written a old)
answered (done l) old e = refl
answered (refuses r) old e = absurd ((zero_exactly (refuses r)).0 e)

pub array_kept : (a : Answer) (old : List ℕ) → (status a ≡ 0 → ⊥) → written a old ≡ old
array_kept (done l) old h = absurd (h refl)
array_kept (refuses r) old h = refl

-- ## Number and place of what is returned
-- the place and one, or 0 where there is none, or none below 2^32
abbrev pub place_and_one : Option ℕ → ℕ
place_and_one None = 0
place_and_one (Some at) = cond (leb (2 ^ 32) at) 0 (at + 1)

parted : (n : ℕ) (p : Option ℕ) → n < 256 → (with_place n p % 256 ≡ n) × (with_place n p / 256 ≡ place_and_one p)
parted n None h = omega arith
parted n (Some at) h = go (leb (2 ^ 32) at)
  where
    go : (b : Bool) → (cond b n (n + 256 * (at + 1)) % 256 ≡ n) × (cond b n (n + 256 * (at + 1)) / 256 ≡ cond b 0 (at + 1))
    go true = omega arith
    go false = omega arith

below : (r : Refusal) → (reported r).number < 256
below r = let h = numbers r in omega arith

pub coded-number : (r : Refusal) → coded r % 256 ≡ (reported r).number
coded-number r = (parted (reported r).number (reported r).place (below r)).0

pub coded-place : (r : Refusal) → coded r / 256 ≡ place_and_one (reported r).place
coded-place r = (parted (reported r).number (reported r).place (below r)).1

abbrev pub Small : Option ℕ → Type 0
Small (Some at) = at < 2 ^ 32
Small None = Unit {0}

place_apart : (p r : Option ℕ) → Small p → Small r → place_and_one p ≡ place_and_one r → p ≡ r
place_apart None None s t e = refl
place_apart (Some a) None s t e = absurd (let e' : a + 1 ≡ 0 = rw (lt-leb (2 ^ 32) a s) at e in omega arith)
place_apart None (Some b) s t e = absurd (let e' : 0 ≡ b + 1 = rw (lt-leb (2 ^ 32) b t) at e in omega arith)
place_apart (Some a) (Some b) s t e =
    let e' : a + 1 ≡ b + 1 = rw (lt-leb (2 ^ 32) a s, lt-leb (2 ^ 32) b t) at e in
    let same : a ≡ b = omega arith in
    ap Some same

pub coded_apart : (p r : Refusal) → Small (reported p).place → Small (reported r).place → coded p ≡ coded r → p ≡ r
coded_apart p r s t e =
    let number = sym (coded-number p) ∙ ap (λ c. c % 256) e ∙ coded-number r in
    let place = place_apart (reported p).place (reported r).place s t (sym (coded-place p) ∙ ap (λ c. c / 256) e ∙ coded-place r) in
    told_apart p r λ i. record { number = number i; place = place i }
