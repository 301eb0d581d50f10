-- A number, with and without whether it is padded, in the code's terms.
-- Assumes nothing.
use Rattle.std.specs.Prelude.{Ok, Err}
use mathlib.Core.Path.{◌≡◌, sym, ap}
use mathlib.Core.Bool.{Bool}
use Prim.Native.Nat.{ℕ}
use Rattle.format.specs.declared.refusal.Refusal.{Refusal}
use Rattle.format.specs.Read.{Read}
use Rattle.slice.specs.declared.cursor.Cursor.{Cursor}
use Rattle.read_field.specs.Shown.{shown, number_result}
use Rattle.read_field.proofs.Shows.{shown_err, shown_ok, number_err, number_ok}

-- from a value to a number that is padded or not
pub told_refused : (padded : Bool) (o : Read ℕ) (q : Refusal) → Err q ≡ shown o → Err q ≡ number_result padded o
told_refused padded o q e = sym (ap (number_result padded) (shown_err o q e))

pub told_read : (padded : Bool) (o : Read ℕ) (v : ℕ) (c : Cursor) → Ok (v, c) ≡ shown o → Ok (v, c, padded) ≡ number_result padded o
told_read padded o v c e = sym (ap (number_result padded) (shown_ok o v c e).is)

-- and back
pub value-refused : (padded : Bool) (o : Read ℕ) (q : Refusal) → Err q ≡ number_result padded o → Err q ≡ shown o
value-refused padded o q e = sym (ap shown (number_err padded o q e))

pub value_read : (padded : Bool) (o : Read ℕ) (v : ℕ) (c : Cursor) (p : Bool) → Ok (v, c, p) ≡ number_result padded o → Ok (v, c) ≡ shown o
value_read padded o v c p e = sym (ap shown (number_ok padded o v c p e).0.is)
