-- The answers of `read_int`, by what reading the number showed.
-- Assumes nothing.
use Rattle.std.specs.Prelude.{Ok, Err}
use mathlib.Core.Path.{◌≡◌}
use Prim.Native.Nat.{ℕ, ◌≤◌, ◌<◌}
use borrow.Author.Tests.{lt-ltb, le-ltb}
use lib.ListN.{drop}
use Rattle.format.specs.declared.refusal.Refusal.TheVariants.{IntOverflow}
use Rattle.format.specs.Form.{Bytes}
use Rattle.format.specs.ReadFields.{number}
use Rattle.format.proofs.ExactFields.{exact_number}
use Rattle.format_strict.specs.ReadStrict.{int}
use Rattle.slice.specs.declared.cursor.Cursor.{Cursor}
use Rattle.read_field.specs.Shown.{shown}
use Rattle.read_field.proofs.Shows.{onward, shown_ok}

module _ (s : Bytes) (at : ℕ) where
  module _ {v : ℕ} {c : Cursor} (e : Ok (v, c) ≡ shown (number at (drop at s))) where
    pub int_small : v < 2147483520 → Ok (v, c) ≡ shown (int at (drop at s))
    int_small h = rw (onward exact_number s at (shown_ok (number at (drop at s)) v c e), lt-ltb v 2147483520 h)

    pub int-large : 2147483520 ≤ v → Err (IntOverflow at) ≡ shown (int at (drop at s))
    int-large h = rw (onward exact_number s at (shown_ok (number at (drop at s)) v c e), le-ltb v 2147483520 h)
