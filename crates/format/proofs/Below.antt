-- Numbers below a bound, in lists: the parts of a joined list, and of what is of a form in two parts; a larger bound.
-- Assumes nothing.
use mathlib.Core.List.{List, [], ◌∷◌, ◌++◌}
use Prim.Native.Nat.{ℕ, ◌≤◌}
use native.Mathlib.Omega.{arith}
use Rattle.format.specs.Form.{Bytes, Below, Form, Then}

pub below_split : (n : ℕ) (xs ys : List ℕ) → Below n (xs ++ ys) → Below n xs × Below n ys
below_split n [] ys h = (tt, h)
below_split n (x ∷ xs) ys h =
    let s = below_split n xs ys h.1 in
    ((h.0, s.0), s.1)

pub below_join : (n : ℕ) (xs ys : List ℕ) → Below n xs → Below n ys → Below n (xs ++ ys)
below_join n [] ys h k = k
below_join n (x ∷ xs) ys h k = (h.0, below_join n xs ys h.1 k)

pub below_more : (n m : ℕ) (xs : List ℕ) → n ≤ m → Below n xs → Below m xs
below_more n m [] le h = tt
below_more n m (x ∷ xs) le h = (omega (arith, h.0), below_more n m xs le h.1)

-- the parts of bytes are bytes
pub parts : {A B : Type 0} {F : Form A} {G : A → Form B} {at : ℕ} {b : Bytes} {y : B} (d : Then F G at b y) → Below 256 b → Below 256 d.front × Below 256 d.back
parts d h = below_split 256 d.front d.back (rw d.whole at h)
