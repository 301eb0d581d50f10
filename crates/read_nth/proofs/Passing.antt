-- One reader behind another of which only the end was shown, for whatever is shown of what the second gives.
-- Assumes nothing.
use Rattle.std.specs.Prelude.{Ok}
use mathlib.Core.Path.{◌≡◌, sym, ◌∙◌, ap}
use Prim.Native.Nat.{ℕ}
use lib.ListN.{drop}
use Rattle.format.specs.Form.{Bytes, Form}
use Rattle.format.specs.Read.{Read, Reader, next, ◌>>=◌}
use Rattle.format.proofs.Exact.{Exact}
use Rattle.slice.specs.declared.cursor.Cursor.{Cursor}
use Rattle.slice.specs.Inner.Results.{cursor_result}
use Rattle.read_field.proofs.Shows.{cursor_ok, onward}

module _ {A B X : Type 0} {r : Reader A} {F : Form A} (exact : Exact r F) (f : Reader B) (shown : Read B → X) (s : Bytes) (at : ℕ) where
  -- both give what the second gives, from the next cursor on
  pub second_read : (c : Cursor) → Ok c ≡ cursor_result (r at (drop at s)) → {x : X} → x ≡ shown (f c.at (drop c.at s)) → x ≡ shown ((r >>= λ _. f) at (drop at s))
  second_read c e {x} d = d ∙ ap (λ o. shown (next o (λ _. f))) (sym (onward exact s at (cursor_ok (r at (drop at s)) c e).was))
