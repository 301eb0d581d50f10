-- The answers of `read_before_main`, in the code's terms: by what the calls showed.
-- Assumes nothing.
use Rattle.std.specs.Prelude.{Option, Ok, Err}
use Rattle.format.specs.declared.header.Warning.{Warning}
use mathlib.Core.Path.{◌≡◌, sym, ◌∙◌, ap}
use Prim.Native.Nat.{ℕ}
use native.Mathlib.Omega.{arith}
use lib.ListN.{drop}
use Rattle.format.specs.declared.refusal.Refusal.{Refusal}
use Rattle.format.specs.declared.header.Header as declared
use Rattle.format.specs.Form.{Bytes}
use Rattle.format.specs.GrammarHeader.{Headed}
use Rattle.format.specs.Read.{Read, ok, refused}
use Rattle.format.specs.ReadFields.{byte}
use Rattle.format.specs.ReadHeader.{header}
use Rattle.format.proofs.ExactFields.{exact_field}
use Rattle.format.proofs.ExactHeader.{exact_header}
use Rattle.slice.specs.declared.cursor.Cursor.{Cursor}
use Rattle.slice.specs.Shown.{cursor_at}
use Rattle.read_field.specs.Shown.{shown}
use Rattle.read_field.proofs.Shows.{Was, onward, shown_err, shown_ok}
use Rattle.read_header.specs.Shown.{first_warning}
use Rattle.read_header.specs.Inner.Results.{header_result}
use Rattle.read_prototype.proofs.On.{taken, stopped}
use Rattle.read_chunk.specs.Inner.Opening.{before_main, opening_result}

header-err : (o : Read Headed) (q : Refusal) → Err q ≡ header_result o → o ≡ refused q
header-err (ok x to rest) q e = absurd (let z : ◌≡◌ {A = ℕ} 0 1 = cc in omega arith)
header-err (refused p) q e = cc

record WasHeader (o : Read Headed) (h : declared.Header) (w : Option Warning) (to : ℕ) : Type 0 where
  value : Headed
  was : Was o value to
  header : h ≡ value.header
  warning : w ≡ first_warning value.warnings

header_ok : (o : Read Headed) (h : declared.Header) (w : Option Warning) (c : Cursor) → Ok (h, w, c) ≡ header_result o → WasHeader o h w c.at
header_ok (ok x to rest) h w c e =
    let all : ◌≡◌ {A = declared.Header × Option Warning × Cursor} (h, w, c) (x.header, first_warning x.warnings, cursor_at to) = cc in
    record { value = x; was = record { rest = rest; is = rw (ap (λ p. p.2) all) }; header = ap (λ p. p.0) all; warning = ap (λ p. p.1) all }
header_ok (refused p) h w c e = absurd (let z : ◌≡◌ {A = ℕ} 0 1 = cc in omega arith)

module _ (s : Bytes) where
  pub header_refused : (q : Refusal) → Err q ≡ header_result (header 0 (drop 0 s)) → Err q ≡ opening_result (before_main 0 s)
  header_refused q e = sym (ap opening_result (stopped _ (header-err (header 0 s) q e)))

  module _ (h : declared.Header) (w : Option Warning) (c₁ : Cursor) (e₁ : Ok (h, w, c₁) ≡ header_result (header 0 (drop 0 s))) where
    headed : WasHeader (header 0 (drop 0 s)) h w c₁.at
    headed = header_ok (header 0 (drop 0 s)) h w c₁ e₁

    header-on : header 0 (drop 0 s) ≡ ok headed.value c₁.at (drop c₁.at s)
    header-on = onward exact_header s 0 headed.was

    pub byte-refused : (q : Refusal) → Err q ≡ shown (byte c₁.at (drop c₁.at s)) → Err q ≡ opening_result (before_main 0 s)
    byte-refused q e = sym (ap opening_result (taken _ header-on ∙ stopped _ (shown_err (byte c₁.at (drop c₁.at s)) q e)))

    pub before-read : (v : ℕ) (c₂ : Cursor) → Ok (v, c₂) ≡ shown (byte c₁.at (drop c₁.at s)) → Ok (record { header = h; warning = w; next = c₂ }) ≡ opening_result (before_main 0 s)
    before-read v c₂ e₂ =
        (λ i. Ok (record { header = headed.header i; warning = headed.warning i; next = c₂ }))
        ∙ sym (ap opening_result (taken _ header-on ∙ taken _ (onward (exact_field 1) s c₁.at (shown_ok (byte c₁.at (drop c₁.at s)) v c₂ e₂))))
