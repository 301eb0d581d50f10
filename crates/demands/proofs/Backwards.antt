-- Wrong readers, which report limits against the order of the bytes; and that they are not in byte order (Order.antt).
--     backwards        two lists, whose limits are tested when both are read, the second one first
--     latest           two numbers, each tested as soon as it is read, as it should be; but where the first is above the limit a second one that is, too, is reported instead
--     not_backwards, not_the_latest
-- (What `backwards` refuses it does not refuse at the front that ends with the cause, and what `latest` refuses there it does not refuse with any bytes behind: each part of `Decided` is wanted.)
-- Assumes nothing.
use mathlib.Core.Path.{◌≡◌, refl, ap}
use mathlib.Core.Bool.{cond}
use mathlib.Core.List.{List, [], ◌∷◌, ◌++◌}
use Prim.Native.Nat.{ℕ, ◌<◌}
use native.Mathlib.Omega.{arith}
use lib.Dec.{leb}
use lib.ListN.{length}
use Rattle.format.specs.declared.limits.ResourceLimits.{ResourceLimits}
use Rattle.format.specs.declared.refusal.Refusal.TheVariants.{Truncated, Constants, Upvalues}
use Rattle.format.specs.Form.{Bytes}
use Rattle.format.specs.Read.{Read, ok, refused, Reader, ◌>>=◌, ◌>>◌, give, here, at_most, many}
use Rattle.format.specs.ReadFields.{number, byte}
use Rattle.demands.proofs.Causes.{LastNumber}
use Rattle.demands.proofs.Order.{InByteOrder}
use Rattle.demands.proofs.Trap.{at_once}

-- ## When both are read
abbrev pub backwards : ℕ → Reader (List ℕ)
backwards limit = do
  first ← here
  n ← number
  xs ← many n byte
  second ← here
  m ← number
  ys ← many m byte
  at_most m limit (Upvalues second)
  at_most n limit (Constants first)
  give ys

-- two lists of one byte each under a limit of 0: the second is reported (place 2), not the first (place 0); and without the second's byte it is another refusal
pub later_first : backwards 0 0 (0x81 ∷ 0 ∷ 0x81 ∷ 0 ∷ []) ≡ refused (Upvalues 2)
later_first = refl

pub not_backwards : (L : ResourceLimits) → InByteOrder L (backwards 0) → ⊥
not_backwards L ordered = let d = ordered (0x81 ∷ 0 ∷ 0x81 ∷ 0 ∷ []) (Upvalues 2) refl in go d.front d.rest d.whole d.already d.ends
  where
    -- a shorter front is cut short
    cut : (front known : Bytes) (place : ℕ) → front ≡ known → backwards 0 0 known ≡ refused (Truncated place) → backwards 0 0 front ≡ refused (Upvalues 2) → ⊥
    cut front known place is t s = let both : backwards 0 0 known ≡ refused (Upvalues 2) = rw is at s in let z : ◌≡◌ {A = ℕ} 0 1 = cc in omega arith

    go : (front rest : Bytes) → 0x81 ∷ 0 ∷ 0x81 ∷ 0 ∷ [] ≡ front ++ rest → backwards 0 0 front ≡ refused (Upvalues 2) → LastNumber (λ v. L.max_upvalues_per_proto < v) 2 0 front → ⊥
    go [] rest e s l = let z : ◌≡◌ {A = ℕ} 0 1 = cc in omega arith
    go (a ∷ []) rest e s l = let is : a ≡ 0x81 = cc in cut (a ∷ []) (0x81 ∷ []) 1 (rw is) refl s
    go (a ∷ b ∷ []) rest e s l = let is : a ≡ 0x81 = cc in let js : b ≡ 0 = cc in cut (a ∷ b ∷ []) (0x81 ∷ 0 ∷ []) 2 (rw (is, js)) refl s
    go (a ∷ b ∷ c ∷ []) rest e s l = let is : a ≡ 0x81 = cc in let js : b ≡ 0 = cc in let ks : c ≡ 0x81 = cc in cut (a ∷ b ∷ c ∷ []) (0x81 ∷ 0 ∷ 0x81 ∷ []) 3 (rw (is, js, ks)) refl s
    go (a ∷ b ∷ c ∷ d ∷ []) rest e s l = let is : 0x81 ≡ c = cc in let begins = l.begins in at_once (a ∷ b ∷ []) l.before c d l.spelling 2 l.value l.whole (omega arith) (omega arith) l.is
    go (a ∷ b ∷ c ∷ d ∷ f ∷ front) rest e s l = let bad : length {A = ℕ} (0x81 ∷ 0 ∷ 0x81 ∷ 0 ∷ []) ≡ length (a ∷ b ∷ c ∷ d ∷ f ∷ (front ++ rest)) = ap length e in omega (arith, bad)

-- ## The later of two
abbrev second : ℕ → ℕ → ℕ → ℕ → Read ℕ → Read ℕ
second limit first n place (ok m to rest) = cond (leb m limit) (cond (leb n limit) (ok m to rest) (refused (Constants first))) (refused (Upvalues place))
second limit first n place (refused p) = cond (leb n limit) (refused p) (refused (Constants first))

abbrev pub latest : ℕ → Reader ℕ
latest limit = do
  first ← here
  n ← number
  λ place s. second limit first n place (number place s)

pub later_instead : (latest 0 0 (0x81 ∷ []) ≡ refused (Constants 0)) × (latest 0 0 (0x81 ∷ 0x81 ∷ []) ≡ refused (Upvalues 1))
later_instead = (refl, refl)

pub not_the_latest : (L : ResourceLimits) → InByteOrder L (latest 0) → ⊥
not_the_latest L ordered = let d = ordered (0x81 ∷ []) (Constants 0) refl in go d.front d.rest d.whole d.already (d.whatever (omega arith) (0x81 ∷ []))
  where
    go : (front rest : Bytes) → 0x81 ∷ [] ≡ front ++ rest → latest 0 0 front ≡ refused (Constants 0) → latest 0 0 (front ++ 0x81 ∷ []) ≡ refused (Constants 0) → ⊥
    go [] rest e s t = let z : ◌≡◌ {A = ℕ} 0 1 = cc in omega arith
    go (a ∷ []) rest e s t = let is : a ≡ 0x81 = cc in let u : latest 0 0 (0x81 ∷ 0x81 ∷ []) ≡ refused (Constants 0) = rw is at t in let z : ◌≡◌ {A = ℕ} 0 1 = cc in omega arith
    go (a ∷ b ∷ front) rest e s t = let bad : length {A = ℕ} (0x81 ∷ []) ≡ length (a ∷ b ∷ (front ++ rest)) = ap length e in omega (arith, bad)
