-- The reader of the header reads exactly the header's form.
-- Assumes nothing.
use mathlib.Core.Path.{◌≡◌, refl, ap₂}
use mathlib.Core.Bool.{Bool, true, false, ◌&&◌}
use mathlib.Core.List.{List, [], ◌∷◌}
use Prim.Native.Nat.{ℕ}
use lib.Dec.{T, eqb, eqb→eq, eqb_refl}
use lib.ListN.{length}
use Rattle.format.specs.declared.refusal.Refusal.{Refusal}
use Rattle.format.specs.Form.{Bytes, Spelt}
use Rattle.format.specs.GrammarHeader.{BeforeFormat, BehindFormat, Header}
use Rattle.format.specs.ReadHeader.{same_bytes, expect, before_format, behind_format, header}
use Rattle.format.proofs.Exact.{Exact, exact_give, exact_here, exact_then, exact_place, exact_as, exact_test, exact_run}
use Rattle.format.proofs.ExactFields.{exact_field}

pub both : (b c : Bool) → T (b && c) → T b × T c
both true c t = (tt, t)
both false c t = elim t [ ]

pub same_eq : (xs ys : Bytes) → T (same_bytes xs ys) → xs ≡ ys
same_eq [] [] t = refl
same_eq (x ∷ xs) (y ∷ ys) t =
    let h = both (eqb x y) (same_bytes xs ys) t in
    ap₂ ◌∷◌ (eqb→eq x y h.0) (same_eq xs ys h.1)
same_eq [] (y ∷ ys) t = elim t [ ]
same_eq (x ∷ xs) [] t = elim t [ ]

pub both_of : (b c : Bool) → T b → T c → T (b && c)
both_of true c t u = u
both_of false c t u = elim t [ ]

pub same_refl : (xs : Bytes) → T (same_bytes xs xs)
same_refl [] = tt
same_refl (x ∷ xs) = both_of (eqb x x) (same_bytes xs xs) (eqb_refl x) (same_refl xs)

pub exact_expect : (bytes : Bytes) (refusal : ℕ → Refusal) → Exact (expect bytes refusal) (Spelt bytes)
exact_expect bytes refusal =
    exact_place λ place.
    exact_then (exact_run (length bytes)) λ b.
    exact_as (λ _ _ _. (λ g. (g.0, same_eq b bytes g.1), λ g. (g.0, rw g.1 (same_refl bytes)))) (exact_test (same_bytes b bytes) (refusal place))

pub exact_before : Exact before_format BeforeFormat
exact_before = exact_then (exact_expect _ _) λ _. exact_expect _ _

pub exact_behind : Exact behind_format BehindFormat
exact_behind =
    exact_then (exact_expect _ _) λ _.
    exact_then (exact_expect _ _) λ _.
    exact_then (exact_expect _ _) λ _.
    exact_then (exact_expect _ _) λ _.
    exact_then (exact_expect _ _) λ _.
    exact_expect _ _

pub exact_header : Exact header Header
exact_header = exact_then exact_before λ _. exact_then exact_here λ place. exact_then (exact_field 1) λ format. exact_then exact_behind λ _. exact_give _
