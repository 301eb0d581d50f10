-- The findings of a chunk, in the code's terms: by what the first pass showed.
-- Assumes nothing.
use Rattle.std.specs.Prelude.{Ok}
use mathlib.Core.Path.{◌≡◌, refl, sym, ap, ◌∙◌}
use mathlib.Core.List.{List, [], ◌∷◌}
use Prim.Native.Nat.{ℕ, ◌≤◌, ◌<◌}
use native.Mathlib.Omega.{arith}
use lib.ListN.{length}
use Rattle.format.specs.Limits.{DEEPEST, MOST, Walkable}
use Rattle.format.specs.declared.limits.ResourceLimits.{ResourceLimits}
use Rattle.format.specs.declared.header.Warning.{Warning}
use Rattle.format.specs.Form.{Bytes, All}
use Rattle.format.specs.Reading.{Reading}
use Rattle.format.specs.GrammarChunk.{outermost, Loaded, reading}
use Rattle.format.specs.Read.{Read, ok, refused}
use Rattle.format.specs.ReadChunk.{main, outcome, shown, read}
use Rattle.format.proofs.Located.{Located, all_located}
use Rattle.format.proofs.ReadChunkLaws.{read_sound, main_complete, read-within}
use Rattle.read_chunk.specs.declared.summary.Summary.{Summary}
use Rattle.read_chunk.specs.Decoded.{shown_warnings, summary_of}
use Rattle.read_chunk.specs.Inner.Decoded.{judged_result}
use Rattle.read_chunk.proofs.Summaries.{in_ceilings}
use Rattle.read_chunk.proofs.MainAt as main-at
use Rattle.read_chunk.proofs.MainAt.{was_shown, MainAt, two-warnings}
use Rattle.validate_rules.specs.Findings.{MAX-DIAGNOSTICS, chunk_findings}
use Rattle.validate_search.specs.Inner.Position.{out_of, start_position}
use Rattle.validate_verdict.specs.Inner.Totals.{tallied}
use Rattle.validate_verdict.specs.Inner.Counts.{totals_result, warning_count}
use Rattle.validate_rules.specs.Rust.{validate}
use Rattle.validate_rules.proofs.RustLaws.{validate-is}
use Rattle.read_next.specs.Inner.Rows.{chunk_rows}
use Rattle.read_next.proofs.Agreement.{rows_for, all_rows}
use Rattle.validate_search.proofs.Whole.{whole}

kept-all : (ws : List Warning) → length ws ≤ 2 → warning_count (shown_warnings ws) ≡ length ws
kept-all [] h = refl
kept-all (v ∷ []) h = refl
kept-all (v ∷ w ∷ []) h = refl
kept-all (v ∷ w ∷ x ∷ ws) h = absurd (omega arith)

-- what is known of a chunk that is read
record Known (L : ResourceLimits) (s : Bytes) (r : Reading) : Type 0 where
  located : All (Located L s) r.functions
  main : MainAt L s r.functions
  warnings : length r.warnings ≤ 2

known_from : (L : ResourceLimits) (s : Bytes) (r : Reading) (o : Read Loaded) → main L 0 s ≡ o → outcome L o ≡ shown r → Known L s r
known_from L s r (ok m to rest) e p =
    let shows : reading L m to rest ≡ r = cc in
    rw (← shows) (record { located = all_located L s e; main = main-at.main-at L s e; warnings = two-warnings L s e L.max_diagnostics })
known_from L s r (refused q) e p = absurd (let z : ◌≡◌ {A = ℕ} 0 1 = cc in omega arith)

known_of : (L : ResourceLimits) (s : Bytes) (r : Reading) → read L s ≡ shown r → Known L s r
known_of L s r was = known_from L s r (main L 0 s) refl (main_complete L s r (read_sound L s r was))

-- main is among the functions of every chunk that is read
pub main_first : (L : ResourceLimits) (s : Bytes) (r : Reading) → read L s ≡ shown r → 0 < length r.functions
main_first L s r was = main-at.main_first (known_of L s r was).main

-- THE FINDINGS ARE THE RUST'S, of every chunk that is read: its list and its flag
pub findings_are : (L : ResourceLimits) (s : Bytes) (r : Reading) → read L s ≡ shown r → validate r ≡ chunk_findings r
findings_are L s r was = validate-is r (main_first L s r was)

module _ (L : ResourceLimits) (s : Bytes) (d : Summary) (e : Ok d ≡ judged_result (read L s)) where
  -- the reading
  abbrev pub r : Reading
  r = (was_shown (read L s) d e).value

  pub shows : d ≡ summary_of r
  shows = (was_shown (read L s) d e).shows

  pub was : read L s ≡ shown r
  was = (was_shown (read L s) d e).is

  known : Known L s r
  known = known_of L s r was

  limits : (L.max_nesting_depth ≤ DEEPEST) × Walkable L
  limits = in_ceilings L (read-within L s r was).0

  pub few_instructions : L.max_total_instructions ≤ MOST
  few_instructions = limits.1.1

  -- the rows from where main begins are those of all functions
  pub rows_shown : chunk_rows L s 32 ≡ rows_for r.functions
  rows_shown = all_rows L s L.max_nesting_depth limits.0 outermost refl 32 known.main.reads

  -- and the first position stands for all findings
  pub all-findings : d.functions < 18446744073709551616 → out_of L s MAX-DIAGNOSTICS (start_position 32 (warning_count d.warnings)) ≡ chunk_findings r
  all-findings few =
      let count : d.functions ≡ length r.functions = ap (λ k. k.functions) shows in
      let kept : warning_count d.warnings ≡ length r.warnings = ap (λ k. warning_count k.warnings) shows ∙ kept-all r.warnings known.warnings in
      (λ i. out_of L s MAX-DIAGNOSTICS (start_position 32 (kept i)))
      ∙ whole L s r known.located (omega arith) L.max_nesting_depth limits.0 outermost refl 32 known.main.reads

  pub totals_shown : d.functions < 18446744073709551616 → Ok (tallied (out_of L s MAX-DIAGNOSTICS (start_position 32 (warning_count d.warnings)))) ≡ totals_result (read L s)
  totals_shown few = ap (λ l. Ok (tallied l)) (all-findings few) ∙ sym (ap totals_result was)
