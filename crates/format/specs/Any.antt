-- Whether a test holds of an item of a list. (The kit's `any` does not compute outside its module.)
use Rattle.std.specs.Prelude.{Bool, false, ◌||◌, List, [], ◌∷◌}

abbrev pub any : {A : Type 0} → (A → Bool) → List A → Bool
any test [] = false
any test (x ∷ xs) = test x || any test xs
