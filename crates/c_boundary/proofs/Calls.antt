-- A call that turns what another answers into numbers, at each case of the answer. (The exports go by `c_boundary::answered`, whose contract says both at once.) `shown` is what that one answers of what it is given (limits), `l` that these are the caller's, `said` what it answered, `is` the case of it.
--     call_refuses     where that was a refusal: what is returned, and that the array is as it was
--     call_answers     where that was an answer: that 0 is returned, and what stands in the array
-- Assumes nothing.
use mathlib.Core.Path.{◌≡◌, sym, ◌∙◌, ap}
use mathlib.Core.List.{List}
use Prim.Native.Nat.{ℕ}
use Rattle.format.specs.declared.refusal.Refusal.{Refusal}
use Rattle.c_boundary.specs.Status.{Answer, done, refuses, coded, status, written}

module _ {A B : Type 0} (of : A → Answer) (shown : B → A) (old : List ℕ) {L L' : B} (l : L ≡ L') {x y : A} (said : y ≡ shown L) (is : y ≡ x) where
  e : x ≡ shown L'
  e = sym is ∙ said ∙ ap shown l

  pub call_refuses : {q : Refusal} {r : ℕ} → of x ≡ refuses q → r ≡ coded q → (r ≡ status (of (shown L'))) × (old ≡ written (of (shown L')) old)
  call_refuses so code = (code ∙ ap status (sym so) ∙ ap (λ a. status (of a)) e, ap (λ a. written a old) (sym so) ∙ ap (λ a. written (of a) old) e)

  pub call_answers : {new numbers : List ℕ} → of x ≡ done numbers → new ≡ numbers → (0 ≡ status (of (shown L'))) × (new ≡ written (of (shown L')) old)
  call_answers so put = (ap status (sym so) ∙ ap (λ a. status (of a)) e, put ∙ ap (λ a. written a old) (sym so) ∙ ap (λ a. written (of a) old) e)
