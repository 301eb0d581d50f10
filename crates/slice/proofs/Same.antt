-- Comparing bytes of a slice with given ones: what `==` answers is what the grammar says.
-- Assumes nothing.
use mathlib.Core.Path.{◌≡◌, refl, ap}
use mathlib.Core.Bool.{◌&&◌}
use mathlib.Core.List.{[], ◌∷◌}
use lib.Dec.{eqb}
use lib.Pointwise.{pointwise}
use Rattle.format.specs.Form.{Bytes}
use Rattle.format.specs.ReadHeader.{same_bytes}

pub pointwise_same : (xs ys : Bytes) → pointwise eqb xs ys ≡ same_bytes xs ys
pointwise_same [] [] = refl
pointwise_same [] (y ∷ ys) = refl
pointwise_same (x ∷ xs) [] = refl
pointwise_same (x ∷ xs) (y ∷ ys) = ap (λ t. eqb x y && t) (pointwise_same xs ys)
