-- What is known of a chunk that is read: its functions and their lists are where the rows say, and the trailing bytes are the rest of the chunk.
-- Assumes nothing.
use mathlib.Core.Path.{◌≡◌, refl, sym, ◌∙◌, ap}
use mathlib.Core.List.{List, [], ◌∷◌}
use mathlib.Core.Option.{some}
use Prim.Native.Nat.{ℕ, zero, suc}
use native.Mathlib.Omega.{arith}
use lib.ListN.{drop, get_elem?}
use Rattle.format.specs.declared.limits.ResourceLimits.{ResourceLimits}
use Rattle.format.specs.Form.{Bytes, All}
use Rattle.format.specs.Reading.{Reading}
use Rattle.format.specs.GrammarChunk.{Loaded, reading}
use Rattle.format.specs.Read.{Read, ok, refused}
use Rattle.format.specs.ReadChunk.{main, outcome, shown, read}
use Rattle.format.proofs.ExactChunk.{exact_main}
use Rattle.format.proofs.Left.{left}
use Rattle.format.proofs.Located.{Located, all_located}
use Rattle.format.proofs.ReadChunkLaws.{read_sound, main_complete}

-- of items that all have a property, each has it
pub all_nth : {A : Type 0} (P : A → Type 0) (xs : List A) → All P xs → (i : ℕ) {x : A} → get_elem? xs i ≡ some x → P x
all_nth P [] a i e = absurd (let z : ◌≡◌ {A = ℕ} 0 1 = cc in omega arith)
all_nth P (y ∷ ys) a zero {x} e = let same : y ≡ x = cc in rw same at a.0
all_nth P (y ∷ ys) a (suc i) e = all_nth P ys a.1 i e

module _ (L : ResourceLimits) (s : Bytes) (r : Reading) where
  pub record Whole : Type 0 where
    pub located : All (Located L s) r.functions
    pub trailing : r.trailing ≡ drop r.trailing_at s

  from : (o : Read Loaded) → main L 0 s ≡ o → outcome L o ≡ shown r → Whole
  from (ok m to rest) e p =
      let shows : reading L m to rest ≡ r = cc in
      let functions : m.functions ≡ r.functions = ap (λ r. r.functions) shows in
      record {
        located = rw functions at (all_located L s e);
        trailing = sym (ap (λ r. r.trailing) shows) ∙ left (exact_main L) s 0 e ∙ ap (λ r. drop r.trailing_at s) shows;
      }
  from (refused q) e p = absurd (let z : ◌≡◌ {A = ℕ} 0 1 = cc in omega arith)

  pub whole : read L s ≡ shown r → Whole
  whole e = from (main L 0 s) refl (main_complete L s r (read_sound L s r e))
