-- The answers of `expect`, in the code's terms: the bytes are looked for at the place `at` of the slice s, and q is the refusal where they are others.
-- Assumes nothing.
use Rattle.std.specs.Prelude.{Ok, Err}
use mathlib.Core.Path.{◌≡◌, refl, sym, ◌∙◌, ap}
use mathlib.Core.Bool.{Bool, true, false}
use Prim.Native.Nat.{ℕ, ◌≤◌}
use lib.ListN.{length, take, drop}
use Rattle.format.specs.declared.refusal.Refusal.{Refusal}
use Rattle.format.specs.Form.{Bytes}
use Rattle.format.specs.Read.{Read, ok, refused, run, test}
use Rattle.format.specs.ReadHeader.{same_bytes, expect}
use Rattle.format.proofs.Steps.{run_was}
use Rattle.slice.specs.declared.cursor.Cursor.{Cursor}
use Rattle.slice.specs.Inner.Results.{cursor_result}
use Rattle.read_field.proofs.Shows.{cursor_err, cursor_ok}

module _ (s : Bytes) (at : ℕ) (bytes : Bytes) (q : Refusal) where
  abbrev looked : Read Bytes
  looked = run (length bytes) at (drop at s)

  abbrev wanted : Read (Unit {0})
  wanted = expect bytes (λ _. q) at (drop at s)

  pub too_short : (p : Refusal) → Err p ≡ cursor_result looked → Err p ≡ cursor_result wanted
  too_short p e = rw (cursor_err looked p e)

  judged : (b : Bytes) (to : ℕ) (rest : Bytes) → looked ≡ ok b to rest → take (length bytes) (drop at s) ≡ b → wanted ≡ test (same_bytes (take (length bytes) (drop at s)) bytes) q to rest
  judged b to rest p t = rw (p, t)

  module _ (c : Cursor) (e : Ok c ≡ cursor_result looked) where
    pub there : length bytes ≤ length (drop at s)
    there = (run_was (length bytes) at (drop at s) (cursor_ok looked c e).was.is).0

    tested : wanted ≡ test (same_bytes (take (length bytes) (drop at s)) bytes) q c.at (cursor_ok looked c e).was.rest
    tested =
        let w = (cursor_ok looked c e).was in
        judged (cursor_ok looked c e).value c.at w.rest w.is (run_was (length bytes) at (drop at s) w.is).1

    pub these : same_bytes (take (length bytes) (drop at s)) bytes ≡ true → Ok c ≡ cursor_result wanted
    these t = rw (tested, t)

    pub others : same_bytes (take (length bytes) (drop at s)) bytes ≡ false → Err q ≡ cursor_result wanted
    others t = rw (tested, t)
