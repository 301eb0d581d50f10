-- To show that bytes are of a form, put together from the bytes of its parts.
--     put      both parts have bytes
--     skip     the first part has none
--     last     the second part has none
-- Assumes nothing.
use mathlib.Core.Path.{refl, sym, subst}
use mathlib.Core.List.{[], ◌++◌, append-nil}
use Prim.Native.Nat.{ℕ, ◌+◌}
use native.Mathlib.Nat.{add-zero}
use lib.ListN.{length}
use Rattle.format.specs.Form.{Bytes, Form, Then}

module _ {A B : Type 0} {F : Form A} {G : A → Form B} {at : ℕ} where
  unfoldable pub put : (front back : Bytes) (x : A) {y : B} → F at front x → G x (at + length front) back y → Then F G at (front ++ back) y
  put front back x f g = record { value = x; front = front; back = back; whole = refl; one = f; two = g }

  unfoldable pub skip : {bytes : Bytes} (x : A) {y : B} → F at [] x → G x at bytes y → Then F G at bytes y
  skip {bytes} x {y} f g = record { value = x; front = []; back = bytes; whole = refl; one = f; two = subst (λ k. G x k bytes y) (sym (add-zero at)) g }

  unfoldable pub last : {bytes : Bytes} (x : A) {y : B} → F at bytes x → G x (at + length bytes) [] y → Then F G at bytes y
  last {bytes} x f g = record { value = x; front = bytes; back = []; whole = sym (append-nil bytes); one = f; two = g }
