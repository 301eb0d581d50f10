-- The trailing bytes, in the code's terms.
-- Assumes nothing.
use Rattle.std.specs.Prelude.{Ok, Err}
use mathlib.Core.Path.{◌≡◌, sym, ◌∙◌, ap}
use mathlib.Core.List.{[]}
use Prim.Native.Nat.{ℕ}
use native.Mathlib.Omega.{arith}
use lib.ListN.{drop}
use Rattle.format.specs.declared.limits.ResourceLimits.{ResourceLimits}
use Rattle.format.specs.declared.refusal.Refusal.{Refusal}
use Rattle.format.specs.Form.{Bytes}
use Rattle.format.specs.ReadChunk.{Outcome, shown, refusal, read}
use Rattle.read_chunk.specs.declared.summary.Summary.{Summary}
use Rattle.read_chunk.specs.Decoded.{summary_of}
use Rattle.read_chunk.specs.Inner.Decoded.{judged_result}
use Rattle.read_chunk.proofs.MainAt.{was_refused}
use Rattle.show_row.proofs.Whole.{whole}
use Rattle.show_chunk.specs.Summaries.{trailing_of}

pub trailing-refused : (o : Outcome) (q : Refusal) → Err q ≡ judged_result o → trailing_of o ≡ []
trailing-refused o q e = ap trailing_of (was_refused o q e)

pub trailing-shown : (L : ResourceLimits) (s : Bytes) (o : Outcome) → read L s ≡ o → (d : Summary) → Ok d ≡ judged_result o → drop d.trailing_at s ≡ trailing_of o
trailing-shown L s (shown r) p d e = let same : d ≡ summary_of r = cc in ap (λ d. drop d.trailing_at s) same ∙ sym (whole L s r p).trailing
trailing-shown L s (refusal q) p d e = absurd (let z : ◌≡◌ {A = ℕ} 0 1 = cc in omega arith)
