-- The loop of a copying walk over the nested functions: those passed so far, and their copy.
--     Copied           the copy of functions one after the other stands at a place, whatever is nested behind them
--     Copies           in the loop: those passed are read (read_walk's `SoFar.antt`), and copied if what is asked of the function holds
--     copies_none, copies_one, copies_all      before the first; behind one more; where none is left
--     as_many          where what is left is the same number in another form
-- Assumes nothing.
use Rattle.std.specs.Prelude.{Ok}
use mathlib.Core.Path.{◌≡◌, refl, sym, subst, ◌∙◌, ap}
use mathlib.Core.List.{List, [], ◌∷◌, ◌++◌, append_assoc, append-nil, foldr, foldr-append}
use mathlib.Core.Option.{Option}
use Prim.Native.Nat.{ℕ, ◌-◌, ◌<◌, ◌≤◌}
use lib.ListN.{drop}
use Rattle.format.specs.declared.limits.ResourceLimits.{ResourceLimits}
use Rattle.format.specs.Form.{Bytes, Below}
use Rattle.format.specs.GrammarFields.{LuaString}
use Rattle.format.specs.Reading.{Prototype}
use Rattle.format.specs.GrammarChunk.{Where}
use Rattle.format.specs.Read.{ok}
use Rattle.format.specs.ReadChunk.{function}
use Rattle.read_walk.specs.declared.walk.Skimmed.{Skimmed}
use Rattle.read_walk.specs.Inner.Skim.{entered, on, skim_result}
use Rattle.read_walk.proofs.SoFar.{SoFar, starts, next-read, goes_on_lem}
use Rattle.copy_put.specs.Inner.Put.{Put}
use Rattle.copy_put.proofs.Writes.{put_nothing, put_then}
use Rattle.copy_parts.proofs.PutParts.{put_as}
use Rattle.copy_walk.proofs.Nests.{Way, Single, Parts, function_single}

pub record Copied (way : Way) (source : Option LuaString) (ps : List Prototype) (at₀ : ℕ) (l₀ : Bytes) (at : ℕ) (l : Bytes) : Type 0 where
  pub bytes : Bytes
  pub flat : (later : List way.Piece) → way.all source (foldr way.nest later ps) ≡ bytes ++ way.all source later
  pub put : Put bytes at₀ l₀ at l

module _ {way : Way} {source : Option LuaString} where
  none_copied : {at : ℕ} {l : Bytes} → Copied way source [] at l at l
  none_copied = record { bytes = []; flat = λ later. refl; put = put_nothing }

  one_copied : {ps qs : List Prototype} {at₀ at at' : ℕ} {l₀ l l' : Bytes} {from to : ℕ} → Copied way source ps at₀ l₀ at l → Single way source qs from to → Put (way.one source qs) at l at' l' → Copied way source (ps ++ qs) at₀ l₀ at' l'
  one_copied {ps} {qs} a one p = record {
    bytes = a.bytes ++ way.one source qs;
    flat = λ later.
        ap (way.all source) (foldr-append way.nest later ps qs ∙ ap (λ l. foldr way.nest l ps) (one.stack later))
        ∙ a.flat (one.piece ∷ later)
        ∙ ap (λ b. a.bytes ++ b) (one.joins later)
        ∙ sym (append_assoc a.bytes (way.one source qs) (way.all source later));
    put = put_then a.put p;
  }

  all_copied : {ps : List Prototype} {at₀ at : ℕ} {l₀ l : Bytes} → Copied way source ps at₀ l₀ at l → Put (way.all source (foldr way.nest [] ps)) at₀ l₀ at l
  all_copied a = put_as (sym (a.flat [] ∙ ap (λ b. a.bytes ++ b) (way.nothing source) ∙ append-nil a.bytes)) a.put

pub record Copies (way : Way) (If : Type 0) (s : Bytes) (L : ResourceLimits) (left : ℕ) (w : Where) (n from : ℕ) (at₀ : ℕ) (l₀ : Bytes) (k : Skimmed) (more at : ℕ) (l : Bytes) : Type 0 where
  pub passed : List Prototype
  pub so_far : SoFar (entered L left) s w n from k more passed
  pub copied : If → Copied way w.source passed at₀ l₀ at l

pub copies_none : (way : Way) (If : Type 0) (s : Bytes) (L : ResourceLimits) (left : ℕ) (w : Where) (n : ℕ) (k : Skimmed) (at : ℕ) (l : Bytes) → k.number ≡ w.number → k.instructions ≡ w.instructions → Copies way If s L left w n k.next.at at l k n at l
copies_none way If s L left w n k at l e i = record { passed = []; so_far = starts (entered L left) s w n k e i; copied = λ _. none_copied }

-- a number of functions left in another form
pub as_many : {way : Way} {If : Type 0} {s : Bytes} {L : ResourceLimits} {left : ℕ} {w : Where} {n from at₀ : ℕ}
    {l₀ : Bytes} {k : Skimmed} {more same at : ℕ} {l : Bytes} → more ≡ same
    → Copies way If s L left w n from at₀ l₀ k more at l → Copies way If s L left w n from at₀ l₀ k same at l
as_many {way} {If} {s} {L} {left} {w} {n} {from} {at₀} {l₀} {k} {at = at} {l = l} e c =
    subst (λ more. Copies way If s L left w n from at₀ l₀ k more at l) e c

module _ {way : Way} {If : Type 0} {s : Bytes} (L : ResourceLimits) (left : ℕ) {w : Where} {n from at₀ : ℕ} {l₀ : Bytes} {k : Skimmed} {more at : ℕ} {l : Bytes} (a : Copies way If s L left w n from at₀ l₀ k more at l) where
  pub copies_all : If → Put (way.all w.source (foldr way.nest [] a.passed)) at₀ l₀ at l
  copies_all holds = all_copied (a.copied holds)

  module _ (made : (w : Where) (ps : List Prototype) (at to : ℕ) → Parts way w ps at to → Single way w.source ps at to) (bytes : If → Below 256 s) (some : 0 < more) (level : 0 < left) (few : k.number ≤ L.max_total_prototypes)
      (later : Skimmed) (e : Ok later ≡ skim_result (on w k) (function L (left - 1) (on w k) k.next.at (drop k.next.at s))) where
    pub copies_one : {at' : ℕ} {l' : Bytes} → (If → (ps : List Prototype) (to : ℕ) (rest : Bytes) → function L (left - 1) (on w k) k.next.at (drop k.next.at s) ≡ ok ps to rest → Put (way.one w.source ps) at l at' l')
        → Copies way If s L left w n from at₀ l₀ later (more - 1) at' l'
    copies_one its =
        let one = next-read L left a.so_far some level few later e in
        record {
          passed = a.passed ++ one.value;
          so_far = goes_on_lem L left a.so_far some level few later e;
          copied = λ holds. one_copied (a.copied holds) ((function_single way s (bytes holds) L made (left - 1) (on w k) k.next.at).holds one.is) (its holds one.value later.next.at _ one.is);
        }
