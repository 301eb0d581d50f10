-- The first position stands for all findings of a chunk that is read.
-- Assumes nothing.
use mathlib.Core.Path.{◌≡◌, refl, ap, ◌∙◌}
use mathlib.Core.List.{List, [], ◌∷◌}
use Prim.Native.Nat.{ℕ, zero, suc, ◌+◌, ◌≤◌}
use native.Mathlib.Omega.{arith}
use lib.ListN.{length, drop}
use borrow.Author.Tests.{lt-ltb}
use Rattle.format.specs.Limits.{DEEPEST}
use Rattle.format.specs.declared.limits.ResourceLimits.{ResourceLimits}
use Rattle.format.specs.Form.{Bytes, All}
use Rattle.format.specs.Reading.{Prototype, Reading}
use Rattle.format.specs.GrammarChunk.{Where}
use Rattle.format.specs.Read.{Read, ok, refused, next, give, many}
use Rattle.format.specs.ReadFields.{field}
use Rattle.format.specs.ReadChunk.{function}
use Rattle.format.proofs.Exact.{never}
use Rattle.format.proofs.ExactFields.{exact_field}
use Rattle.format.proofs.Left.{left}
use Rattle.format.proofs.Located.{Located}
use Rattle.read_field.specs.Shown.{shown}
use Rattle.read_next.proofs.RowLaws.{at_start}
use Rattle.read_next.proofs.Agreement.{rows_for, all_rows}
use Rattle.validate_rules.specs.Findings.{code_groups, groups, MAX-DIAGNOSTICS, chunk_findings}
use Rattle.validate_search.specs.Inner.Position.{on_word, words_at, code_left, row_groups, out_of, start_position}

-- ## The words of a list that was read
module _ (s : Bytes) where
  -- n words from a place on are those that are read there
  abbrev Words : ℕ → Type 0
  Words n = (at : ℕ) (ws : List ℕ) (to : ℕ) (rest : Bytes) → many n (field 4) at (drop at s) ≡ ok ws to rest → words_at s n at ≡ ws

  words_on : (n : ℕ) → Words n → (x a : ℕ) (o : Read (List ℕ)) → many n (field 4) a (drop a s) ≡ o → (ws : List ℕ) (to : ℕ) (rest : Bytes)
      → next o (λ xs. give (x ∷ xs)) ≡ ok ws to rest → x ∷ words_at s n a ≡ ws
  words_on n more x a (ok xs end behind) is ws to rest e = let same : x ∷ xs ≡ ws = cc in ap (λ l. x ∷ l) (more a xs end behind is) ∙ same
  words_on n more x a (refused q) is ws to rest e = absurd (never e)

  words_more : (n : ℕ) → Words n → (at : ℕ) (o : Read ℕ) → field 4 at (drop at s) ≡ o → (ws : List ℕ) (to : ℕ) (rest : Bytes)
      → next o (λ x a b. next (many n (field 4) a b) (λ xs. give (x ∷ xs))) ≡ ok ws to rest → on_word (shown o) [] (λ word to. word ∷ words_at s n to) ≡ ws
  words_more n more at (ok x a b) is ws to rest e =
      let here : b ≡ drop a s = left (exact_field 4) s at is in
      words_on n more x a (many n (field 4) a (drop a s)) refl ws to rest (rw here at e)
  words_more n more at (refused q) is ws to rest e = absurd (never e)

  words_are : (n : ℕ) → Words n
  unfolding words_at
  words_are zero at ws to rest e = cc
  words_are (suc n) at ws to rest e = words_more n (words_are n) at (field 4 at (drop at s)) refl ws to rest e

-- ## Functions
module _ (L : ResourceLimits) (s : Bytes) where
  groups_are : (k : ℕ) (ps : List Prototype) → All (Located L s) ps → k + length ps ≤ 18446744073709551615 → row_groups s k (rows_for ps) ≡ groups k ps
  unfolding row_groups groups
  groups_are k [] a h = refl
  groups_are k (p ∷ ps) a h =
      rw (words_are s (length p.instructions) p.places.instructions p.instructions _ _ a.0.instructions.is, lt-ltb k 18446744073709551615 (omega arith), groups_are (k + 1) ps a.1 (omega arith))

  -- at the place where main begins
  pub whole : (r : Reading) → All (Located L s) r.functions → length r.functions ≤ 18446744073709551615
      → (n : ℕ) → n ≤ DEEPEST → (w : Where) → w.depth ≡ 0 → (at : ℕ) {to : ℕ} {rest : Bytes} → function L n w at (drop at s) ≡ ok r.functions to rest
      → out_of L s MAX-DIAGNOSTICS (start_position at (length r.warnings)) ≡ chunk_findings r
  unfolding out_of start_position chunk_findings code_left code_groups words_at
  whole r located few n deep w top at e =
      rw (at_start L s _ at refl, all_rows L s n deep w top at e, groups_are 0 r.functions located (omega arith))
