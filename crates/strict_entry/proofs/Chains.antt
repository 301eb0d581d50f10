-- One part behind another, of which only the end shows: what calls show of the parts is what the reader of the whole shows.
--     stops            the first part is refused: so is the whole
--     passes           it is passed over: the whole shows what follows shows, whatever was read
--     value            what is made of a value does not show
--     alike            two readers behind one part that show the same end
-- Assumes nothing.
use Rattle.std.specs.Prelude.{Result, Ok, Err}
use mathlib.Core.Path.{◌≡◌, refl, sym, ◌∙◌, ap}
use Prim.Native.Nat.{ℕ}
use lib.ListN.{drop}
use Rattle.format.specs.declared.refusal.Refusal.{Refusal}
use Rattle.format.specs.Form.{Bytes, Form}
use Rattle.format.specs.Read.{Read, ok, refused, Reader, next, ◌>>=◌, give}
use Rattle.format.proofs.Exact.{Exact}
use Rattle.slice.specs.declared.cursor.Cursor.{Cursor}
use Rattle.slice.specs.Inner.Results.{cursor_result}
use Rattle.read_field.proofs.Shows.{onward, cursor_err, cursor_ok}

module _ {A B : Type 0} (r : Reader A) (f : A → Reader B) (s : Bytes) (at : ℕ) {x : Result Cursor Refusal} (e : x ≡ cursor_result (r at (drop at s))) where
  pub stops : {q : Refusal} → x ≡ Err q → x ≡ cursor_result ((r >>= f) at (drop at s))
  stops {q} told = told ∙ sym (ap (λ o. cursor_result (next o f)) (cursor_err (r at (drop at s)) q (sym told ∙ e)))

  pub passes : {F : Form A} → Exact r F → {c : Cursor} → x ≡ Ok c → {y : Result Cursor Refusal} → ((v : A) → y ≡ cursor_result (f v c.at (drop c.at s))) → y ≡ cursor_result ((r >>= f) at (drop at s))
  passes exact {c} told rest =
      let p = cursor_ok (r at (drop at s)) c (sym told ∙ e) in
      rest p.value ∙ sym (ap (λ o. cursor_result (next o f)) (onward exact s at p.was))

pub value : {A B : Type 0} (o : Read A) (f : A → B) → cursor_result (next o (λ x. give (f x))) ≡ cursor_result o
value (ok x to rest) f = refl
value (refused q) f = refl

pub alike : {A B C : Type 0} (o : Read A) (f : A → Reader B) (g : A → Reader C) → ((x : A) (at : ℕ) (s : Bytes) → cursor_result (f x at s) ≡ cursor_result (g x at s)) → cursor_result (next o f) ≡ cursor_result (next o g)
alike (ok x to rest) f g same = same x to rest
alike (refused q) f g same = refl
