-- Three bytes one after the other: what a function that reads them shows, by what each read showed. `k` is what is made of them, `show` what is shown of that.
-- Assumes nothing.
use Rattle.std.specs.Prelude.{Ok, Err}
use mathlib.Core.Path.{◌≡◌}
use Prim.Native.Nat.{ℕ}
use lib.ListN.{drop}
use Rattle.format.specs.Form.{Bytes}
use Rattle.format.specs.declared.refusal.Refusal.{Refusal}
use Rattle.format.specs.Read.{Read, ok, refused, Reader, ◌>>=◌, give}
use Rattle.format.specs.ReadFields.{field, byte}
use Rattle.format.proofs.ExactFields.{exact_field}
use Rattle.slice.specs.declared.cursor.Cursor.{Cursor}
use Rattle.read_field.specs.Shown.{shown}
use Rattle.read_field.proofs.Shows.{onward, shown_err, shown_ok}

abbrev three_bytes : {B : Type 0} → (ℕ → ℕ → ℕ → B) → Reader B
three_bytes k = do
  a ← byte
  b ← byte
  c ← byte
  give (k a b c)

-- a byte was read: the rest is the slice from the next cursor on
byte-on : (s : Bytes) (at v : ℕ) (c : Cursor) → Ok (v, c) ≡ shown (field 1 at (drop at s)) → field 1 at (drop at s) ≡ ok v c.at (drop c.at s)
byte-on s at v c e = onward (exact_field 1) s at (shown_ok (field 1 at (drop at s)) v c e)

module _ {B X : Type 0} (k : ℕ → ℕ → ℕ → B) (show : Read B → X) (s : Bytes) (at : ℕ) where
  pub first_refused : (q : Refusal) → Err q ≡ shown (field 1 at (drop at s)) → show (refused q) ≡ show (three_bytes k at (drop at s))
  first_refused q e = rw (shown_err (field 1 at (drop at s)) q e)

  module _ (v : ℕ) (c : Cursor) (e : Ok (v, c) ≡ shown (field 1 at (drop at s))) where
    pub second_refused : (q : Refusal) → Err q ≡ shown (field 1 c.at (drop c.at s)) → show (refused q) ≡ show (three_bytes k at (drop at s))
    second_refused q f = rw (byte-on s at v c e, shown_err (field 1 c.at (drop c.at s)) q f)

    module _ (u : ℕ) (d : Cursor) (f : Ok (u, d) ≡ shown (field 1 c.at (drop c.at s))) where
      pub third_refused : (q : Refusal) → Err q ≡ shown (field 1 d.at (drop d.at s)) → show (refused q) ≡ show (three_bytes k at (drop at s))
      third_refused q g = rw (byte-on s at v c e, byte-on s c.at u d f, shown_err (field 1 d.at (drop d.at s)) q g)

      pub three_read : (w : ℕ) (n : Cursor) → Ok (w, n) ≡ shown (field 1 d.at (drop d.at s)) → show (ok (k v u w) n.at (drop n.at s)) ≡ show (three_bytes k at (drop at s))
      three_read w n g = rw (byte-on s at v c e, byte-on s c.at u d f, byte-on s d.at w n g)
