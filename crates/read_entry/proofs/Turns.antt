-- Passing over n items, one turn at a time: for any reader of an item.
-- Assumes nothing.
use Rattle.std.specs.Prelude.{Ok, Err}
use mathlib.Core.Path.{◌≡◌, refl, sym, ◌∙◌, ap}
use mathlib.Core.List.{◌∷◌}
use Prim.Native.Nat.{ℕ, suc, ◌-◌, ◌≤◌, ◌<◌}
use native.Mathlib.Omega.{arith}
use lib.ListN.{drop}
use Rattle.format.specs.declared.refusal.Refusal.{Refusal}
use Rattle.format.specs.Form.{Bytes, Form}
use Rattle.format.specs.Read.{Read, ok, refused, Reader, next, ◌>>=◌, give, many}
use Rattle.format.proofs.Exact.{Exact}
use Rattle.slice.specs.Shown.{cursor_at}
use Rattle.slice.specs.Inner.Results.{cursor_result}
use Rattle.read_field.proofs.Shows.{Was, onward}

-- what is made of the value, as of a list with one item more in front, does not show
pub same_end : {A B : Type 0} (g : A → ℕ → B) (o : Read A) → cursor_result (next o (λ x at s. ok (g x at) at s)) ≡ cursor_result o
same_end g (ok x to rest) = refl
same_end g (refused q) = refl

-- what n items from a place on show, those left show, from another on: the invariant of a loop over items
abbrev pub Rest : {A : Type 0} → Reader A → Bytes → ℕ → ℕ → ℕ → ℕ → Type 0
Rest r s n from left at = cursor_result (many n r from (drop from s)) ≡ cursor_result (many left r at (drop at s))

one_more : (left : ℕ) → 0 < left → left ≡ suc (left - 1)
one_more left more = omega arith

pub begins : {A : Type 0} (r : Reader A) (s : Bytes) (n from : ℕ) {left : ℕ} → left ≡ n → Rest r s n from left from
begins r s n from all = ap (λ left. cursor_result (many left r from (drop from s))) (sym all)

module _ {A : Type 0} (r : Reader A) (s : Bytes) (n from left at : ℕ) (inv : Rest r s n from left at) where
  -- none is left
  pub ends : left ≤ 0 → Ok (cursor_at at) ≡ cursor_result (many n r from (drop from s))
  ends h = let e : left ≡ 0 = omega arith in rw (inv, e)

  -- an item is refused: so is the list
  pub stops : 0 < left → (q : Refusal) → r at (drop at s) ≡ refused q → Err q ≡ cursor_result (many n r from (drop from s))
  stops more q e = rw (inv, one_more left more, e)

  -- an item is read: the rest is what is behind it
  pub goes_on_lem : {fewer : ℕ} → left ≡ suc fewer → {F : Form A} → Exact r F → {x : A} {to : ℕ} → Was (r at (drop at s)) x to → Rest r s n from fewer to
  goes_on_lem {fewer} one exact {x} {to} w =
      inv
      ∙ ap (λ n. cursor_result (many n r at (drop at s))) one
      ∙ ap (λ o. cursor_result (next o (λ x. many fewer r >>= λ xs. give (x ∷ xs)))) (onward exact s at w)
      ∙ same_end _ (many fewer r to (drop to s))
