-- Those passed so far by `skim_functions`, wherever the first of them stands, and what was counted: its loop's invariant.
use Rattle.std.specs.Prelude.{Ok}
use Prim.Native.Nat.{ℕ, ◌≤◌}
use mathlib.Core.Path.{◌≡◌, subst}
use mathlib.Core.List.{List, []}
use lib.ListN.{drop}
use Rattle.format.specs.declared.limits.ResourceLimits.{ResourceLimits}
use Rattle.format.specs.Form.{Bytes}
use Rattle.format.specs.Reading.{Prototype}
use Rattle.format.specs.GrammarChunk.{Where}
use Rattle.format.specs.ReadChunk.{forest}
use Rattle.format_spelling.specs.ReadSpelling as count
use Rattle.format_spelling.specs.Inner.Tally.{Adds}
use Rattle.read_walk.specs.declared.walk.Skimmed.{Skimmed}
use Rattle.read_walk.specs.Inner.Skim.{entered, skim_result}
use Rattle.read_walk.specs.Inner.Source.{source_at}
use Rattle.read_walk.specs.Inner.Spelt.{nested_spelt}
use Rattle.read_walk.proofs.SoFar as so_far
use Rattle.read_walk.proofs.SoFar.{SoFar}
use Rattle.read_walk.proofs.Tally as tally
use Rattle.read_walk.proofs.Tally.{Total}

pub record Passed (s : Bytes) (L : ResourceLimits) (left n source : ℕ) (k₀ : Skimmed) (t₀ : List ℕ) (k : Skimmed) (more : ℕ) (t : List ℕ) (w : Where) : Type 0 where
  pub passed : List Prototype
  pub so_far : SoFar (entered L left) s w n k₀.next.at k more passed
  pub total : w.source ≡ source_at L.max_string_bytes s source → Total L left s w n k₀.next.at t₀ k more t

pub starts : (s : Bytes) (L : ResourceLimits) (left n source : ℕ) (k : Skimmed) (t : List ℕ) (w : Where) → k.number ≡ w.number → k.instructions ≡ w.instructions → Passed s L left n source k t k n t w
starts s L left n source k t w e i = record { passed = []; so_far = so_far.starts (entered L left) s w n k e i; total = λ _. tally.total_starts L left s w n k t e i }

-- the same, by another term for how many are left
pub as_many : {s : Bytes} {L : ResourceLimits} {left n source : ℕ} {k₀ : Skimmed} {t₀ : List ℕ} {k : Skimmed} {more same : ℕ} {t : List ℕ} {w : Where} → more ≡ same
    → Passed s L left n source k₀ t₀ k more t w → Passed s L left n source k₀ t₀ k same t w
as_many {s} {L} {left} {n} {source} {k₀} {t₀} {k} {t = t} {w} e p = subst (λ more. Passed s L left n source k₀ t₀ k more t w) e p

-- none is left
pub ends : {s : Bytes} {L : ResourceLimits} {left n source : ℕ} {k₀ : Skimmed} {t₀ : List ℕ} {k : Skimmed} {more : ℕ} {t : List ℕ}
    → ((w : Where) → k₀.number ≡ w.number → k₀.instructions ≡ w.instructions → Passed s L left n source k₀ t₀ k more t w) → more ≤ 0
    → ((w : Where) → k₀.number ≡ w.number → k₀.instructions ≡ w.instructions → Ok k ≡ skim_result w (forest n (entered L left) w k₀.next.at (drop k₀.next.at s)))
    × ((w : Where) → k₀.number ≡ w.number → k₀.instructions ≡ w.instructions → w.source ≡ source_at L.max_string_bytes s source
    → Adds (forest n (entered L left) w k₀.next.at (drop k₀.next.at s)) (count.forest n (entered L left) (nested_spelt L left) w k₀.next.at (drop k₀.next.at s)) t₀ t)
ends {s} {L} {left} {n} {source} {k₀} {t₀} {k} {more} {t} p over = (
  (λ w e i. so_far.ends (p w e i).so_far over),
  λ w e i o. tally.total_ends L left s w n k₀.next.at t₀ k more t ((p w e i).total o) over,
)
