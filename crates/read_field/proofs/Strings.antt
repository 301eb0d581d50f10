-- The answers of a string, in the code's terms: s is the slice.
-- Assumes nothing.
use Rattle.std.specs.Prelude.{Option, Some, None, Result, Ok, Err}
use Rattle.read_field.specs.declared.string.StringAt.{StringAt}
use mathlib.Core.Path.{◌≡◌, sym, ◌∙◌, ap}
use mathlib.Core.Logic.{◌≢◌}
use Prim.Native.Nat.{ℕ, ◌-◌, ◌≤◌, ◌<◌}
use lib.ListN.{length, drop}
use Rattle.format.specs.declared.refusal.Refusal.{Refusal}
use Rattle.format.specs.declared.refusal.Refusal.TheVariants.{StringBytes}
use Rattle.format.specs.Form.{Bytes}
use Rattle.format.specs.Read.{next, run}
use Rattle.format.specs.ReadFields.{number, content, string}
use Rattle.format.proofs.Exact.{exact_run}
use Rattle.format.proofs.ExactFields.{exact_number}
use Rattle.format.proofs.Steps.{content-none, content-long, content-run}
use Rattle.slice.specs.declared.cursor.Cursor.{Cursor}
use Rattle.slice.specs.Inner.Results.{cursor_result}
use Rattle.read_field.specs.Shown.{shown, string_result}
use Rattle.read_field.proofs.Shows.{onward, shown_err, shown_ok, cursor_err, cursor_ok}

-- ## Behind a size v that was read up to c
module _ (s : Bytes) (limit first v : ℕ) (c : Cursor) where
  pub absent : v ≡ 0 → Ok (None, c) ≡ string_result (content limit first v c.at (drop c.at s))
  absent z = rw (content-none limit first v c.at (drop c.at s) z)

  pub too_long : v ≢ 0 → limit < v - 1 → Err (StringBytes first) ≡ string_result (content limit first v c.at (drop c.at s))
  too_long n l = rw (content-long limit first v c.at (drop c.at s) n l)

  pub cut : (q : Refusal) → v ≢ 0 → v - 1 ≤ limit → Err q ≡ cursor_result (run (v - 1) c.at (drop c.at s)) → Err q ≡ string_result (content limit first v c.at (drop c.at s))
  cut q n l f = rw (content-run limit first v c.at (drop c.at s) n l, cursor_err (run (v - 1) c.at (drop c.at s)) q f)

  pub present : (end : Cursor) → v ≢ 0 → v - 1 ≤ limit → Ok end ≡ cursor_result (run (v - 1) c.at (drop c.at s))
      → Ok (Some (record { place = c.at; len = v - 1 }), end) ≡ string_result (content limit first v c.at (drop c.at s))
  present end n l f =
      let p = cursor_ok (run (v - 1) c.at (drop c.at s)) end f in
      let a = ((exact_run (v - 1)).sound {at = c.at} {s = drop c.at s} p.was.is).spelt in
      let size : length p.value ≡ v - 1 = ap length (sym a.0) ∙ a.1 in
      rw (content-run limit first v c.at (drop c.at s) n l, p.was.is, size)

-- ## The whole
module _ (s : Bytes) (limit at : ℕ) where
  pub size_refused : (q : Refusal) → Err q ≡ shown (number at (drop at s)) → Err q ≡ string_result (string limit at (drop at s))
  size_refused q e = rw (shown_err (number at (drop at s)) q e)

  pub size_read : (v : ℕ) (c : Cursor) → Ok (v, c) ≡ shown (number at (drop at s)) → {r : Result (Option StringAt × Cursor) Refusal} → r ≡ string_result (content limit at v c.at (drop c.at s)) → r ≡ string_result (string limit at (drop at s))
  size_read v c e shows = shows ∙ sym (ap (λ o. string_result (next o (content limit at))) (onward exact_number s at (shown_ok (number at (drop at s)) v c e)))
