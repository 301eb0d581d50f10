-- The answers of `parse_header_lua54`, in the code's terms: by what the three calls showed.
-- Assumes nothing.
use Rattle.std.specs.Prelude.{Ok, Err}
use mathlib.Core.Path.{◌≡◌, refl, sym, ◌∙◌, ap}
use Prim.Native.Nat.{ℕ}
use lib.ListN.{drop}
use Rattle.format.specs.declared.refusal.Refusal.{Refusal}
use Rattle.format.specs.Form.{Bytes}
use Rattle.format.specs.Read.{Read, Reader, next, ◌>>◌, ok, refused, give}
use Rattle.format.specs.ReadFields.{field}
use Rattle.format.specs.GrammarHeader.{Headed, header_of, format_warnings}
use Rattle.format.specs.ReadHeader.{before_format, behind_format, header}
use Rattle.format.proofs.ExactFields.{exact_field}
use Rattle.format.proofs.ExactHeader.{exact_before}
use Rattle.slice.specs.declared.cursor.Cursor.{Cursor}
use Rattle.slice.specs.Inner.Results.{cursor_result}
use Rattle.read_field.specs.Shown.{shown}
use Rattle.read_field.proofs.Shows.{onward, cursor_err, cursor_ok, shown_err, shown_ok}
use Rattle.read_header.specs.Shown.{first_warning}
use Rattle.read_header.specs.Inner.Results.{header_result}

-- the header behind the format byte, which stands at `place`
abbrev ending : ℕ → ℕ → Reader Headed
ending place format = behind_format >> give (record { header = header_of format; warnings = format_warnings place format })

module _ (s : Bytes) (at : ℕ) where
  pub front-refused : (q : Refusal) → Err q ≡ cursor_result (before_format at (drop at s)) → Err q ≡ header_result (header at (drop at s))
  front-refused q e = rw (cursor_err (before_format at (drop at s)) q e)

  module _ (p : Cursor) (e : Ok p ≡ cursor_result (before_format at (drop at s))) where
    from-format : header at (drop at s) ≡ next (field 1 p.at (drop p.at s)) (λ format. ending p.at format)
    from-format = rw (onward exact_before s at (cursor_ok (before_format at (drop at s)) p e).was)

    pub format-refused : (q : Refusal) → Err q ≡ shown (field 1 p.at (drop p.at s)) → Err q ≡ header_result (header at (drop at s))
    format-refused q f = rw (from-format, shown_err (field 1 p.at (drop p.at s)) q f)

    module _ (v : ℕ) (c : Cursor) (f : Ok (v, c) ≡ shown (field 1 p.at (drop p.at s))) where
      at-end : header at (drop at s) ≡ ending p.at v c.at (drop c.at s)
      at-end = rw (from-format, onward (exact_field 1) s p.at (shown_ok (field 1 p.at (drop p.at s)) v c f))

      pub back-refused : (q : Refusal) → Err q ≡ cursor_result (behind_format c.at (drop c.at s)) → Err q ≡ header_result (header at (drop at s))
      back-refused q g = rw (at-end, cursor_err (behind_format c.at (drop c.at s)) q g)

      pub accepted : (end : Cursor) → Ok end ≡ cursor_result (behind_format c.at (drop c.at s))
          → Ok ((header_of v), (first_warning (format_warnings p.at v)), end) ≡ header_result (header at (drop at s))
      accepted end g = rw (at-end, (cursor_ok (behind_format c.at (drop c.at s)) end g).was.is)
