-- Laws of `puts`, one byte more, and the end. Assumes nothing.
use mathlib.Core.Path.{◌≡◌}
use mathlib.Core.List.{List, [], ◌∷◌, ◌++◌}
use Prim.Native.Nat.{ℕ, ◌+◌, ◌<◌, ◌≤◌}
use native.Mathlib.Numerals.{add-one}
use lib.ListN.{length, get_or, drop, drop_of_length-le}
use lib.Seq.{drop-cons}
use Rattle.text_print.specs.Output.{Waiting, put_of, puts}

module _ (s : List ℕ) (i : ℕ) where
  pub one_less : i < length s → drop i s ≡ (get_or s i 0 ∷ []) ++ drop (i + 1) s
  one_less h = rw (add-one i, drop-cons s i 0)

  pub none_left : length s ≤ i → drop i s ≡ []
  none_left h = drop_of_length-le s h

module _ (s : List ℕ) (i : ℕ) (w : Waiting) where
  pub puts_one : i < length s → puts (drop i s) w ≡ puts (drop (i + 1) s) (put_of (get_or s i 0) w)
  unfolding puts
  puts_one h = rw (add-one i, drop-cons s i 0)

  pub puts-end : length s ≤ i → puts (drop i s) w ≡ w
  unfolding puts
  puts-end h = rw (drop_of_length-le s h)
