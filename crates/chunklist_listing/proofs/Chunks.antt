-- What is listed of a chunk, in the code's terms: by what the first pass showed.
-- Assumes nothing.
use Rattle.std.specs.Prelude.{Ok, Err}
use Rattle.std.specs.Prelude.{Option, Result, IfOk}
use mathlib.Core.Path.{◌≡◌, refl, sym, ap, subst, ◌∙◌}
use mathlib.Core.List.{List, [], ◌∷◌, ◌++◌}
use Prim.Native.Nat.{ℕ, ◌+◌}
use lib.ListN.{length}
use Rattle.format.specs.declared.limits.ResourceLimits.{ResourceLimits}
use Rattle.format.specs.declared.refusal.Refusal.{Refusal}
use Rattle.format.specs.Form.{Bytes}
use Rattle.format.specs.Reading.{Prototype}
use Rattle.format.specs.ReadChunk.{Outcome, read}
use Rattle.read_chunk.specs.declared.summary.Summary.{Summary}
use Rattle.read_chunk.specs.Inner.Decoded.{judged_result}
use Rattle.read_chunk.proofs.MainAt.{was_refused}
use Rattle.read_next.specs.Inner.Rows.{chunk_rows}
use Rattle.read_next.proofs.Agreement.{rows_for}
use Rattle.validate_rules.specs.declared.finding.Verdict.{Verdict}
use Rattle.validate_verdict.proofs.Chunk.{r, shows, was, rows_shown}
use Rattle.text_print.specs.Output.{Waiting, waiting, puts, Printed}
use Rattle.chunklist_lines.specs.Lines.{first_line}
use Rattle.chunklist_lines.specs.Inner.Rows.{row_line}
use Rattle.chunklist_listing.specs.Listing.{function_line, function_lines}
use Rattle.chunklist_listing.specs.Inner.Rows.{lines_of, row_lines}
use Rattle.chunklist_lines.proofs.Laws.{then_ok}

pub refused-lines : (bytes : ℕ) (v : Verdict) (o : Outcome) (q : Refusal) → Err q ≡ judged_result o → []
    ≡ lines_of bytes v o
refused-lines bytes v o q e = sym (ap (lines_of bytes v) (was_refused o q e))

row_lines_lem : (k : ℕ) (ps : List Prototype) → row_lines k (rows_for ps) ≡ function_lines k ps
unfolding row_line
row_lines_lem k [] = refl
row_lines_lem k (p ∷ ps) = ap (λ l. function_line k p ++ l) (row_lines_lem (k + 1) ps)

as_many : (ps : List Prototype) → length (rows_for ps) ≡ length ps
as_many [] = refl
as_many (p ∷ ps) = rw (as_many ps)

module _ (L : ResourceLimits) (s : Bytes) (d : Summary) (e : Ok d ≡ judged_result (read L s)) where
  pub all-counted : length (chunk_rows L s 32) ≡ d.functions
  all-counted = ap length (rows_shown L s d e) ∙ as_many (r L s d e).functions ∙ sym
      (ap (λ k. k.functions) (shows L s d e))

  pub lines_are : (v : Verdict) → first_line (length s) d.functions d.trailing_len v ++ row_lines 0 (chunk_rows L s 32)
      ≡ lines_of (length s) v (read L s)
  lines_are v =
      ap (λ k. first_line (length s) k.functions k.trailing_len v ++ row_lines 0 (chunk_rows L s 32)) (shows L s d e)
      ∙ ap (λ l. first_line (length s) (length (r L s d e).functions) (length (r L s d e).trailing) v ++ l)
      (ap (row_lines 0) (rows_shown L s d e) ∙ row_lines_lem 0 (r L s d e).functions)
      ∙ sym (ap (lines_of (length s) v) (was L s d e))

  module _ {E : Type 0} (v : Verdict) (out : List ℕ) (result : Result ℕ E) where
    pub chunk_put_ok : (w : Waiting) {w₁ : Waiting} → w₁ ≡ puts (first_line (length s) d.functions d.trailing_len v) w
        → IfOk result (λ after. waiting out after ≡ puts (row_lines 0 (chunk_rows L s 32)) w₁) → IfOk result
        (λ after. waiting out after ≡ puts (lines_of (length s) v (read L s)) w)
    chunk_put_ok w a b =
        subst (λ l. IfOk result (λ after. waiting out after ≡ puts l w)) (lines_are v)
        (then_ok (first_line (length s) d.functions d.trailing_len v)
        (row_lines 0 (chunk_rows L s 32)) w out result a b)

    pub lines_printed : (o n : Option (List ℕ)) (waits : List ℕ) → Printed o n
        (waits ++ (first_line (length s) d.functions d.trailing_len v ++ row_lines 0 (chunk_rows L s 32))) out result
        → Printed o n (waits ++ lines_of (length s) v (read L s)) out result
    lines_printed o n waits = subst (λ l. Printed o n (waits ++ l) out result) (lines_are v)
