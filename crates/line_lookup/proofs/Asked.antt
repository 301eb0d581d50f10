-- From the row of a function to the function of the reading.
--     input_low        a file that is read has at most 16777216 bytes
--     line-shown       the line of its row is its line
-- Assumes nothing.
use Rattle.std.specs.Prelude.{Ok}
use mathlib.Core.Path.{◌≡◌, refl, ◌∙◌, ap}
use mathlib.Core.Bool.{Bool, true, false, cond}
use Prim.Native.Nat.{ℕ, ◌≤◌}
use native.Mathlib.Omega.{arith}
use borrow.Author.Tests.{leb-true}
use lib.Dec.{leb}
use lib.ListN.{length, drop}
use Rattle.format.specs.declared.limits.ResourceLimits.{ResourceLimits}
use Rattle.format.specs.declared.refusal.Refusal.TheVariants.{LimitAboveCeiling, InputBytes}
use Rattle.format.specs.Form.{Bytes}
use Rattle.format.specs.Limits.{within_ceilings, MOST}
use Rattle.format.specs.Reading.{Prototype}
use Rattle.format.specs.ReadChunk.{refusal, outcome, main, read}
use Rattle.format.proofs.Located.{Located}
use Rattle.format.proofs.Steps.{run_was}
use Rattle.read_prototype.specs.declared.row.FunctionRow.{FunctionRow}
use Rattle.read_prototype.specs.Inner.Row.{row_of}
use Rattle.read_chunk.proofs.Summaries.{input_ceiling}
use Rattle.show_row.specs.Asked.{Asked, found, refused, function_of}
use Rattle.show_row.specs.Inner.Places.{shown_row_answer}
use Rattle.show_row.proofs.Found.{found_located}
use Rattle.line_lookup.specs.Lines.{answer_of, shown_line}
use Rattle.line_lookup.specs.Inner.Scan.{answered, shown_row_line}

-- ## The input limit
module _ (L : ResourceLimits) (s : Bytes) (f : ℕ) (x : FunctionRow) where
  pub input_low : Ok x ≡ shown_row_answer (function_of f (read L s)) → length s ≤ MOST
  unfolding read
  input_low e = by (within_ceilings L) refl (leb (length s) L.max_input_bytes) refl e
    where
      by : (t : Bool) → within_ceilings L ≡ t → (u : Bool) → leb (length s) L.max_input_bytes ≡ u
          → Ok x ≡ shown_row_answer (function_of f (cond t (cond u (outcome L (main L 0 s)) (refusal InputBytes)) (refusal LimitAboveCeiling))) → length s ≤ MOST
      by true p true q e = omega (arith, input_ceiling L p, leb-true (length s) L.max_input_bytes q)
      by true p false q e = absurd (let z : ◌≡◌ {A = ℕ} 0 1 = cc in omega arith)
      by false p u q e = absurd (let z : ◌≡◌ {A = ℕ} 0 1 = cc in omega arith)

-- ## The line
-- the anchors are read where the row says, and the deltas stand there
located_line : (L : ResourceLimits) (s : Bytes) (pc : ℕ) (p : Prototype) → Located L s p → shown_row_line (row_of p) pc s ≡ shown_line pc (found p)
located_line L s pc p l =
    let deltas = (run_was (length p.line_info_lem) p.places.line_info_lem (drop p.places.line_info_lem s) l.line_info_lem.is).1 in
    ap (answered (row_of p) pc s) l.abs_line_info.is ∙ ap (λ ds. answer_of (length p.instructions) p.line_defined ds p.abs_line_info pc) deltas

pub line-shown : (L : ResourceLimits) (s : Bytes) (f pc : ℕ) (x : FunctionRow) → Ok x ≡ shown_row_answer (function_of f (read L s)) → shown_row_line x pc s ≡ shown_line pc (function_of f (read L s))
line-shown L s f pc x e = by (function_of f (read L s)) refl e
  where
    by : (a : Asked Prototype) → function_of f (read L s) ≡ a → Ok x ≡ shown_row_answer a → shown_row_line x pc s ≡ shown_line pc a
    by (found p) is e = let same : x ≡ row_of p = cc in ap (λ x. shown_row_line x pc s) same ∙ located_line L s pc p (found_located L s f (read L s) refl is)
    by (refused q) is e = absurd (let z : ◌≡◌ {A = ℕ} 0 1 = cc in omega arith)
