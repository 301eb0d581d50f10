-- Demand 1 of `listing`, all that `chunklist` prints of a file: a refusal's line, with number and place of the first condition that holds, exactly where the file is refused; else the chunk's lines.
--     printed_refusal      the line of the first condition that holds; its first letter is r
--     printed_chunk        where none holds, the chunk's lines; the first letter is c. So each is printed exactly where it should be
-- Assumes nothing.
use mathlib.Core.Path.{◌≡◌, refl, ◌∙◌, ap}
use mathlib.Core.List.{List, [], ◌∷◌, ◌++◌}
use mathlib.Core.Option.{none, some}
use Prim.Native.Nat.{ℕ}
use native.Mathlib.Omega.{arith}
use lib.ListN.{length, get_or}
use Rattle.format.specs.declared.refusal.Refusal.{Refusal}
use Rattle.format.specs.declared.refusal.Report.{Report}
use Rattle.format.specs.Refusals.{reported}
use Rattle.format.specs.Form.{Bytes}
use Rattle.format.specs.Ascii.{ascii}
use Rattle.format.specs.Reading.{Reading}
use Rattle.format.specs.ReadChunk.{Outcome, shown, refusal, read}
use Rattle.validate_rules.specs.Findings.{chunk_findings, verdict}
use Rattle.chunklist_lines.specs.Lines.{decimal, at_place, first_line, refusal_line}
use Rattle.chunklist_listing.specs.Listing.{list_limits, chunk_lines, listed, listing}
use Rattle.demands.proofs.Refused.{nothing_later, first, of_chunk, for_chunk}
use Rattle.demands.proofs.Demand1.{after, order}
use Rattle.demands.proofs.Accepted.{Accepted, chunk_read}

-- `refused `, the number, and ` at ` with the place, if there is one
abbrev pub report_line : Report → List ℕ
report_line r = (ascii "refused " ++ decimal r.number) ++ (at_place r.place ++ (10 ∷ []))

module _ (s : Bytes) where
  pub printed_refusal : (r : Report) → first (for_chunk list_limits s) ≡ some r → (listing s ≡ report_line r) × (get_or (listing s) 0 0 ≡ 114)
  unfolding refusal_line
  printed_refusal r e = by (read list_limits s) (order list_limits s (λ r. []) ∙ ap (λ qs. first (of_chunk list_limits s qs)) (nothing_later (read list_limits s)) ∙ e)
    where
      line : (q : Refusal) → refusal_line q ≡ report_line (reported q)
      line q = refl

      by : (o : Outcome) → after o (λ r. []) ≡ some r → (listed (length s) o ≡ report_line r) × (get_or (listed (length s) o) 0 0 ≡ 114)
      by (shown x) e = absurd (let z : ◌≡◌ {A = ℕ} 0 1 = cc in omega arith)
      by (refusal q) e = let same : reported q ≡ r = cc in let is = line q ∙ ap report_line same in (is, ap (λ l. get_or l 0 0) is)

  pub printed_chunk : first (for_chunk list_limits s) ≡ none → Accepted list_limits s (λ r. (listing s ≡ chunk_lines (length s) (verdict (chunk_findings r)) r) × (get_or (listing s) 0 0 ≡ 99))
  unfolding first_line
  printed_chunk e =
      let a = chunk_read list_limits s e in
      let is : listing s ≡ chunk_lines (length s) (verdict (chunk_findings a.reading)) a.reading = ap (listed (length s)) a.is in
      record { reading = a.reading; is = a.is; shows = (is, ap (λ l. get_or l 0 0) is ∙ letter a.reading) }
    where
      letter : (r : Reading) → get_or (chunk_lines (length s) (verdict (chunk_findings r)) r) 0 0 ≡ 99
      letter r = refl
